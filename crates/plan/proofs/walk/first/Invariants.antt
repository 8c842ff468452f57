use Rattle.plan.specs.Next.{Worse}
use Rattle.sheet.specs.Sheets.{table}
use Rattle.plan.proofs.walk.first.Given as goal

-- no task below t reaches the value
abbrev pub invariant-loop-t : goal.invariant-loop-t
invariant-loop-t g l = Worse (g.B.Book.meaning l.book) (table l.start.sheet.now) l.start.set.0 l.t l.goal
