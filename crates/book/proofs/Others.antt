-- A call on a standard book leaves the worths of every other task. Assumes nothing.
use Rattle.std.proofs.Common.{◌≡◌, ◌≢◌, refl, [], ℕ, arith, None}
use Rattle.std.proofs.lemmas.Grind.{common_steps}
use Rattle.std.proofs.lemmas.List.{get_or-set_other}
use Rattle.book.specs.Ramps.{ramp_of}
use Rattle.book.specs.Standard.{Contents, Others_stay, about, changed, worth_of}
use Rattle.book.specs.Steps.{steps_of}
use Rattle.book.specs.Weights.{weight_of}
use Rattle.book.specs.declared.call.Call.{Call}
use Rattle.book.specs.declared.call.Call.TheVariants.{Ramp as ramp, Step as step, DropSteps as drop_steps, Weight as weight}

-- a task with the same ramp, the same steps and the same weight is worth the same
same-worth : (c d : Contents) (task at : ℕ) → ramp_of c.ramps task ≡ ramp_of d.ramps task → steps_of c.steps task ≡ steps_of d.steps task →
    weight_of c.weights task ≡ weight_of d.weights task → worth_of c task at ≡ worth_of d task at
same-worth c d task at r s w = cc

changed-others : (c : Contents) (call : Call) (task at : ℕ) → task ≢ about call → worth_of (changed c call) task at ≡ worth_of c task at
changed-others c (ramp k peak knee foot) task at other = same-worth _ c task at (get_or-set_other c.ramps k task _ None other) refl refl
changed-others c (step k until worth) task at other = same-worth _ c task at refl (get_or-set_other c.steps k task _ [] other) refl
changed-others c (drop_steps k) task at other = same-worth _ c task at refl (get_or-set_other c.steps k task _ [] other) refl
changed-others c (weight k w) task at other = same-worth _ c task at refl refl (get_or-set_other c.weights k task _ 1 other)

pub others_stay : Others_stay
others_stay c call task at other = let stay = changed-others c call task at other in grind (arith, common_steps)
