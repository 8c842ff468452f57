use Rattle.std.proofs.Common.{◌≡◌, sym, subst, ◌∙◌, arith, length-set}
use Rattle.row.proofs.Held.{holds-more, laid-more, place-left}
use Rattle.row.specs.Rows.{Leads, set_of}
use Rattle.sheet.specs.Sheets.{table}
use Rattle.row.proofs.open.OpenRow.put.Goals as goal

pub bounds-self-len : goal.bounds-self-len
bounds-self-len c = omega (arith, c.len.ensures, place-left c.args.self.now c.args.t c.requires)

pub invariant_of-self : goal.invariant_of-self
invariant_of-self c =
    let x = c.args.self.now in
    let is = laid-more x c.args.t c.requires _ c.with-self.ensures.value c.len.result c.len.ensures in
    record {
      whole = length-set x.order c.len.result c.args.t ∙ x.whole;
      holds = subst (λ o. c.with-self.result.0 ≡ set_of o) (sym is) (holds-more x c.args.t c.requires _ c.with-self.ensures.value);
      leads = ∣ subst (Leads (table x.sheet)) (sym is) c.requires ∣₁;
    }

pub returns-clause-more : goal.returns-clause-more
returns-clause-more c = laid-more c.args.self.now c.args.t c.requires _ c.with-self.ensures.value c.len.result c.len.ensures
