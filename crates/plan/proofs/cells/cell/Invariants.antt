use Rattle.plan.specs.Next.{Upto}
use Rattle.sheet.specs.Sheets.{table}
use Rattle.plan.proofs.cells.cell.Given as goal

-- the greatest that is left where a task below t comes next
abbrev pub invariant-loop-t : goal.invariant-loop-t
invariant-loop-t g l = Upto (g.B.Book.meaning l.book) (table l.start.sheet.now) l.start.set.0 l.t l.best
