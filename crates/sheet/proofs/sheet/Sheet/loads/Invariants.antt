use Rattle.sheet.proofs.Loads.{Left}
use Rattle.sheet.specs.Tables.{expected_of, maximum_of}
use Rattle.sheet.specs.Sheets.{table}
use Rattle.sheet.proofs.sheet.Sheet.loads.Given as goal

abbrev pub invariant-loop-t : goal.invariant-loop-t
invariant-loop-t l = Left expected_of (table l.self) l.fn.set.0 l.expected.0 l.left.0 × Left maximum_of (table l.self) l.fn.set.0 l.maximum.0 l.left.0

abbrev pub decreases-loop-t : goal.decreases-loop-t
decreases-loop-t l = l.left.0
