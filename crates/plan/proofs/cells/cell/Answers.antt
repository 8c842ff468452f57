use Rattle.std.proofs.Common.{ap, arith}
use Rattle.std.proofs.lemmas.Grind.{common_steps}
use Rattle.plan.proofs.Greatest.{cell-upto, upto-more}
use Rattle.sheet.specs.Sheets.{table}
use Rattle.plan.proofs.cells.cell.Goals as goal

pub loop-t-preserved : goal.loop-t-preserved
loop-t-preserved g c =
    upto-more (g.B.Book.meaning c.args.book.now) (table c.after-start.result.sheet.now) _ c.loop-t.t _ _ _ c.loop-t.invariant c.next.ensures (grind (arith, common_steps))

pub returns : goal.returns
returns g c =
    cell-upto (g.B.Book.meaning c.args.book.now) (table c.args.sheet.now) c.args.set.0 c.loop-t.t _ c.requires.set (grind (arith, common_steps))
    (rw (c.after-start.ensures.sheet, ap (λ x. x.0) c.after-start.ensures.set) at c.loop-t.invariant)
