use Rattle.plan.proofs.Walks.{Walked}
use Rattle.sheet.specs.Sheets.{table}
use Rattle.plan.proofs.walk.walk.Given as goal

abbrev pub invariant-loop-i : goal.invariant-loop-i
invariant-loop-i g l = Walked (g.B.Book.meaning l.book) (table l.sheet) l.cells l.fn.order l.order l.set.0 l.i
