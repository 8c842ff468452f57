use Rattle.std.proofs.Common.{◌≡◌, length}
use Rattle.file.specs.Names.{trimmed}
use Rattle.file.proofs.naming.trimmed.Given as goal

-- only blanks at the end are gone
abbrev pub invariant-loop-bytes : goal.invariant-loop-bytes
invariant-loop-bytes l = trimmed l.bytes ≡ trimmed l.fn.bytes

abbrev pub decreases-loop-bytes : goal.decreases-loop-bytes
decreases-loop-bytes l = length l.bytes
