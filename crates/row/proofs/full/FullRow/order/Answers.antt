use Rattle.std.proofs.Common.{◌≡◌, subst, ◌-◌, arith, length, take}
use Rattle.plan.specs.Orders.{Lawful}
use Rattle.row.proofs.Laying.{lawful-of}
use Rattle.row.specs.Laid.{order_of}
use Rattle.sheet.specs.Sheets.{table}
use Rattle.row.proofs.full.FullRow.order.Goals as goal

pub returns-clause-lawful : goal.returns-clause-lawful
returns-clause-lawful c =
    let x = c.args.self.now in
    let n : length (table x.sheet) ≡ c.from.result - 0 = omega (arith, c.from.ensures, c.count.ensures.counts) in
    subst (λ n. Lawful (table x.sheet) (take n x.order)) n (lawful-of (table x.sheet) (order_of x) x.lawful)
