use Rattle.std.proofs.Common.{◌≡◌, ◌++◌, take}
use Rattle.row.specs.Laid.{laid}
use Rattle.sample.proofs.hand.lay.Given as goal

-- the row has the tasks up to here behind what it had
abbrev pub invariant-loop-t : goal.invariant-loop-t
invariant-loop-t l = record {
  lays : laid l.row ≡ laid l.fn.row ++ take l.t-index l.tasks;
  sheet : l.row.sheet ≡ l.fn.row.sheet;
}
