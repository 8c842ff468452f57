-- What a trial holds, and what its end leaves. Assumes nothing.
--     refusal_of x      the number with which placing the task would be refused, 0 where it was added
--     figures_of x      the tally as it stands while the trial x lives
--     saved_of x        the tally that the trial's end writes back
--     reference_of x    the name of the reference to the tally that the trial holds, by which proofs tell references apart
--     left_by e         the tally that stands behind this reference after the trial's end, where e is what a clause calls its `exit`
use Rattle.std.specs.Prelude.{ℕ}
use Rattle.std.specs.Borrow.{GName, MutBor}
use Rattle.row.specs.declared.tally.Tally.{Tally}
use Rattle.row.specs.declared.trial.Trial.{Trial}

abbrev pub refusal_of : Trial → ℕ
refusal_of x = x.refusal

abbrev pub figures_of : Trial → Tally
figures_of x = x.tally.now

abbrev pub saved_of : Trial → Tally
saved_of x = x.saved

abbrev pub reference_of : Trial → GName
reference_of x = x.tally.ghost_name

abbrev pub left_by : {A : Type 0} → MutBor Tally × A → Tally
left_by e = e.0.now
