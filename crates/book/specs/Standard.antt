-- The standard book: what it holds, what it means, and what each call on it answers and leaves. Assumes nothing.
--     contents x           what a standard book holds
--     held y               what a weight over the sum of a ramp book and a step book holds
--     worth_of c           what these contents mean
--     rows c call          the refusals that the call may get, by number, each with the test whether it fits
--     verdict c call       0 where the call is accepted, else the number of its refusal
--     changed c call       the contents after the call, where it is accepted
--     after c call         the contents after the call: as they were, where the call is refused
--     Called c c' call n   the call answers n and leaves c'
--     about call           the task whose curve or weight the call sets
--     given c call at      what the call makes its task worth at a time, where it is accepted
--     Means c c' call n    the call answers n and turns c into c': its task has the worths given, where it is accepted; all else stays
--     Within c call        what an accepted call keeps
--     Others_stay          a call leaves what every other task is worth
--     Alike c d            each task has the same ramp, the same steps and the same weight
use Rattle.std.specs.Prelude.{List, ◌≡◌, ◌≢◌, ℕ, ◌+◌, ◌*◌, ◌<◌, ◌&&◌, ◌==◌, if◌then◌else◌, min, set, Option}
use Rattle.book.specs.Ramps.{RampFits, no_ramps, ramp_meaning, ramp_of, ramp_rows, ramped, slope}
use Rattle.book.specs.Lists.{ramps_in, steps_in, weights_in}
use Rattle.book.specs.Steps.{StepFits, drop_rows, no_steps, raised, step_added, step_meaning, step_rows, steps_dropped, steps_of}
use Rattle.book.specs.Weights.{WeightFits, all_one, weight_of, weight_rows}
use Rattle.book.specs.Worths.{Meaning, added, top, weighed}
use Rattle.book.specs.declared.call.Call.{Call}
use Rattle.book.specs.declared.call.Call.TheVariants.{Ramp as ramp, Step as step, DropSteps as drop_steps, Weight as weight}
use Rattle.book.specs.declared.layers.Sum.{Sum}
use Rattle.book.specs.declared.layers.Weighted.{Weighted}
use Rattle.book.specs.declared.ramp.Ramp.{Ramp}
use Rattle.book.specs.declared.ramp.RampBook.{RampBook}
use Rattle.book.specs.declared.standard.StandardBook.{StandardBook}
use Rattle.book.specs.declared.step.Step.{Step}
use Rattle.book.specs.declared.step.StepBook.{StepBook}
use Rattle.common.specs.Refusals.{Answered, Rows, first_fit, kept_unless}

pub record Contents : Type 0 where
  pub ramps : List (Option Ramp)
  pub steps : List (List Step)
  pub weights : List ℕ

abbrev pub held : Weighted (Sum RampBook StepBook) → Contents
held y = record { ramps = ramps_in y.inner.first; steps = steps_in y.inner.second; weights = weights_in y }

abbrev pub contents : StandardBook → Contents
contents x = held x.layers

-- no curves, and every weight 1
abbrev pub nothing : Contents
nothing = record { ramps = no_ramps; steps = no_steps; weights = all_one }

-- the ramps and the steps together, times the weights, each at most the top
abbrev pub worth_of : Contents → Meaning
worth_of c = weighed (weight_of c.weights) (added (ramp_meaning c.ramps) (step_meaning c.steps))

abbrev pub rows : Contents → Call → Rows
rows c (ramp k peak knee foot) = ramp_rows k peak knee foot
rows c (step k until worth) = step_rows c.steps k until worth
rows c (drop_steps k) = drop_rows k
rows c (weight k w) = weight_rows k w

abbrev pub verdict : Contents → Call → ℕ
verdict c call = first_fit (rows c call)

abbrev pub changed : Contents → Call → Contents
changed c (ramp k peak knee foot) = record c { ramps = ramped c.ramps k peak knee foot }
changed c (step k until worth) = record c { steps = step_added c.steps k until worth }
changed c (drop_steps k) = record c { steps = steps_dropped c.steps k }
changed c (weight k w) = record c { weights = set c.weights k w }

abbrev pub after : Contents → Call → Contents
after c call = kept_unless (verdict c call) (changed c call) c

abbrev pub Called : (c c' : Contents) (call : Call) (n : ℕ) → Type 0
Called c c' call n = Answered (rows c call) (changed c call) c c' n

-- the task whose curve or weight the call sets
abbrev pub about : Call → ℕ
about (ramp k peak knee foot) = k
about (step k until worth) = k
about (drop_steps k) = k
about (weight k w) = k

-- a ramp's worth and that of the steps together, times a weight, each at most the top
abbrev pub weighed_sum : (w r s : ℕ) → ℕ
weighed_sum w r s = min top (w * min top (r + s))

-- what the call makes its task worth, where it is accepted: it has the new ramp, a step more, no steps, or the new weight
abbrev pub given : Contents → Call → ℕ → ℕ
given c (ramp k peak knee foot) at = weighed_sum (weight_of c.weights k) (slope peak knee foot at) (step_meaning c.steps k at)
given c (step k until worth) at =
    weighed_sum (weight_of c.weights k) (ramp_meaning c.ramps k at) (raised (step_meaning c.steps k at) until worth at)
given c (drop_steps k) at = weighed_sum (weight_of c.weights k) (ramp_meaning c.ramps k at) 0
given c (weight k w) at = weighed_sum w (ramp_meaning c.ramps k at) (step_meaning c.steps k at)

-- the call that answers n turns the contents c into c': where it is accepted, its task is worth what is given; every other worth
-- stays, and where it is refused all do
abbrev pub Means : (c c' : Contents) (call : Call) (n : ℕ) → Type 0
Means c c' call n =
    (task at : ℕ) → worth_of c' task at ≡ (if n == 0 && task == about call then given c call at else worth_of c task at)

-- the limits within which alone the call is accepted
abbrev pub Within : Contents → Call → Type 0
Within c (ramp k peak knee foot) = RampFits k peak knee foot
Within c (step k until worth) = StepFits c.steps k until worth
Within c (drop_steps k) = k < 16
Within c (weight k w) = WeightFits k w

-- after any call, every other task is worth what it was
abbrev pub Others_stay : Type 0
Others_stay = (c : Contents) (call : Call) (task at : ℕ) → task ≢ about call → worth_of (after c call) task at ≡ worth_of c task at

pub record Alike (c d : Contents) : Type 0 where
  pub ramps : (k : ℕ) → k < 16 → ramp_of c.ramps k ≡ ramp_of d.ramps k
  pub steps : (k : ℕ) → k < 16 → steps_of c.steps k ≡ steps_of d.steps k
  pub weights : (k : ℕ) → k < 16 → weight_of c.weights k ≡ weight_of d.weights k
