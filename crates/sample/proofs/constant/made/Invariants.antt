use Rattle.std.proofs.Common.{◌≡◌, [], take}
use Rattle.std.specs.Prelude.{fold}
use Rattle.sheet.specs.Calls.{after}
use Rattle.sheet.specs.Sheets.{table}
use Rattle.sample.proofs.constant.made.Given as goal

-- the calls up to here are made
abbrev pub invariant-loop-call : goal.invariant-loop-call
invariant-loop-call l = table l.sheet ≡ fold after [] (take l.call-index l.calls)
