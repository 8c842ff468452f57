use Rattle.std.proofs.Common.{◌≡◌, subst, ◌-◌, arith, take}
use Rattle.std.specs.Int.RustNames.{count_ones}
use Rattle.row.proofs.Held.{leads-on}
use Rattle.row.specs.Rows.{Leads}
use Rattle.sheet.specs.Sheets.{table}
use Rattle.row.proofs.open.OpenRow.order.Goals as goal

pub returns-clause-leads : goal.returns-clause-leads
returns-clause-leads c =
    let x = c.args.self.now in
    let n : count_ones x.placed.0 ≡ c.len.result - 0 = omega (arith, c.len.ensures) in
    subst (λ n. Leads (table x.sheet) (take n x.order)) n (leads-on x)
