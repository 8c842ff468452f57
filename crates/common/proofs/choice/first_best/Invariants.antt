use Rattle.std.specs.List.{IsFirstBest}
use Rattle.common.proofs.choice.first_best.Given as goal

abbrev pub invariant-loop-i : goal.invariant-loop-i
invariant-loop-i g l = IsFirstBest g.R.Rank.beats l.ranks l.i l.best
