use Rattle.std.proofs.Common.{◌≡◌, ◌+◌, ◌≤◌, length, map}
use Rattle.file.specs.Lines.{pieces}
use Rattle.file.specs.Loads.{longest, made, nothing_made, run}
use Rattle.file.specs.Readings.{reading}
use Rattle.file.proofs.loading.make_all.Given as goal

-- what is left makes of what is made so far what the whole file makes; each line has a byte at least
abbrev pub invariant-loop-rest : goal.invariant-loop-rest
invariant-loop-rest l =
    (run (made l.sheet l.book) (l.line + 1) (map reading (pieces l.rest)) ≡ run nothing_made 1 (map reading (pieces l.fn.file)))
    × (l.line + length l.rest ≤ longest)

abbrev pub decreases-loop-rest : goal.decreases-loop-rest
decreases-loop-rest l = length l.rest
