use Rattle.std.proofs.Common.{◌≡◌, ◌↔◌, ℕ, ◌<◌, true, [], ◌∷◌, ◌++◌}
use Rattle.common.specs.Sets.{has}
use Rattle.row.specs.Laid.{laid}
use Rattle.row.specs.Rows.{Leads}
use Rattle.sheet.specs.Sheets.{table}
use Rattle.sample.proofs.trials.choices.Given as goal

-- the tasks below t that may be placed next; the tally is as it was
abbrev pub invariant-loop-t : goal.invariant-loop-t
invariant-loop-t g l = record {
  each : (k : ℕ) → (has l.choices.0 k ≡ true) ↔ ((k < l.t) × Leads (table l.row.sheet) (laid l.row ++ k ∷ []));
  kept : l.tally ≡ l.fn.tally;
}
