use Rattle.std.proofs.Common.{[], drop}
use Rattle.history.specs.Histories.{Passed, resulting}
use Rattle.history.proofs.Histories.{Rest}
use Rattle.sheet.specs.Sheets.{table}
use Rattle.history.proofs.replay.Given as goal

-- the calls that are left make of the sheet what all of them make of a new one, and leave what all of them leave
abbrev pub invariant-loop-call : goal.invariant-loop-call
invariant-loop-call g l =
    let m = g.B.Book.meaning l.book in
    Rest m (resulting l.fn.history) (λ c o. Passed m [] l.fn.history l.fn.cells c l.fn.order o) (table l.sheet) (drop l.call-index l.fn.history) l.cells l.order
