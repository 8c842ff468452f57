use Rattle.std.proofs.Common.{◌≡◌, ap, sym, subst, subst₂, ◌∙◌, ℕ, ◌<◌, ◌∷◌, [], arith, length, take, List}
use Rattle.std.proofs.lemmas.Grind.{common_steps}
use Rattle.std.proofs.lemmas.List.{length-append}
use Rattle.std.specs.Int.RustNames.{count_ones}
use Rattle.row.proofs.Firsts.{first-lowest, first-next, none-more}
use Rattle.row.proofs.Held.{counts, ends, not-whole, whole}
use Rattle.row.specs.Laid.{laid, order_of}
use Rattle.row.specs.Rows.{First}
use Rattle.sheet.proofs.Tables.{few-listed}
use Rattle.sheet.specs.Sheets.{table}
use Rattle.sheet.specs.declared.sheet.Sheet.{Sheet}
use Rattle.row.proofs.open.OpenRow.finish.Goals.{After-judge, After-order-1}
use Rattle.row.proofs.open.OpenRow.finish.Goals as goal

-- how many places there are
places : (c : After-judge) → c.from-end.result ≡ length (table c.loop.self.sheet)
places c = c.from-end.ensures ∙ c.count.ensures.counts ∙ ap (λ (s : Sheet). length (table s)) (sym c.loop.invariant.sheet)

left : (c : After-judge) → count_ones c.loop.self.placed.0 < c.from-end.result
left c = omega (arith, c.loop.invariant.counts, c.loop-test.true)

task : (c : After-judge) → c.loop-t.t < length (table c.loop.self.sheet)
task c = ends c.loop.self _ (places c) (left c) c.loop-t.t c.loop-t.invariant

pub overflow_add-t : goal.overflow_add-t
overflow_add-t c = omega (arith, task (goal.at.overflow_add-t c).After-judge, few-listed c.loop.self.sheet.table)

pub loop-t-smaller : goal.loop-t-smaller
loop-t-smaller c = omega (arith, task (goal.at.loop-t-smaller c).After-judge)

pub loop-t-preserved : goal.loop-t-preserved
loop-t-preserved c =
    let x = c.loop.self in
    none-more (table x.sheet) (laid x) c.loop-t.t c.loop-t.invariant (λ y. let z = c.judge.ensures.accepted.1 y in absurd (grind (arith, common_steps)))

pub loop-preserved : goal.loop-preserved
loop-preserved c =
    let x = c.loop.self in
    let d = (goal.at.loop-preserved c).After-judge in
    record {
      sheet = c.put.ensures.sheet ∙ c.loop.invariant.sheet;
      counts = omega (arith, counts c.put.new.self, ap length c.put.ensures.more, length-append (laid x) (c.loop-t.t ∷ []), counts x, c.loop.invariant.counts);
      first = λ o f. c.loop.invariant.first o
          (subst (λ (s : Sheet). First (table s) (laid x) o) c.loop.invariant.sheet
          (first-next (table x.sheet) (laid x) c.loop-t.t o (not-whole x _ (places d) (left d)) c.loop-t.invariant
          (subst₂ (λ (s : Sheet) row. First (table s) row o) (sym c.loop.invariant.sheet) c.put.ensures.more f)));
    }

-- after the last place
end : (c : After-order-1) → First (table c.loop.self.sheet) (laid c.loop.self) (take (length (table c.loop.self.sheet)) c.loop.self.order)
end c =
    let places : c.from-end.result ≡ length (table c.loop.self.sheet) = c.from-end.ensures ∙ c.count.ensures.counts ∙ ap (λ (s : Sheet). length (table s)) (sym c.loop.invariant.sheet) in
    whole c.loop.self _ places (omega (arith, c.loop.invariant.counts, c.loop-test.false))

pub new-requires : goal.new-requires
new-requires c = (end c).lawful

pub returns-clause-first : goal.returns-clause-first
returns-clause-first c =
    let x = c.loop.self in
    let d = (goal.at.returns-clause-first c).After-order-1 in
    c.loop.invariant.first (order_of c.new.result)
    (subst₂ (λ (s : Sheet) (o : List ℕ). First (table c.args.self.sheet) (laid x) (take (length (table s)) o)) (sym c.new.ensures.sheet) (sym c.new.ensures.order)
    (subst (λ (s : Sheet). First (table s) (laid x) (take (length (table x.sheet)) x.order)) c.loop.invariant.sheet (end d)))

pub returns-clause-lowest : goal.returns-clause-lowest
returns-clause-lowest c = first-lowest _ _ _ (returns-clause-first c)
