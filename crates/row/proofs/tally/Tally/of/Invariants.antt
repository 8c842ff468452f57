use Rattle.std.proofs.Common.{take}
use Rattle.row.specs.Tallies.{Tells}
use Rattle.sheet.specs.Sheets.{table}
use Rattle.row.proofs.tally.Tally.of.Given as goal

-- the figures of the tasks up to here
abbrev pub invariant-loop-t : goal.invariant-loop-t
invariant-loop-t g l = Tells (g.B.Book.meaning l.book) (table l.sheet) (take l.t-index l.order) l.tally
