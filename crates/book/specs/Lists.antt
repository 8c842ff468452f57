-- What books hold, as lists. Assumes nothing.
use Rattle.std.specs.Prelude.{List, ℕ, Option, map, take}
use Rattle.book.specs.declared.layers.Weighted.{Weighted}
use Rattle.book.specs.declared.ramp.Ramp.{Ramp}
use Rattle.book.specs.declared.ramp.RampBook.{RampBook}
use Rattle.book.specs.declared.step.Step.{Step}
use Rattle.book.specs.declared.step.StepBook.{StepBook}
use Rattle.book.specs.declared.step.Steps.{Steps}
use Rattle.book.specs.declared.weights.Weights.{Weights}

-- the ramp of each task
abbrev pub ramps_in : RampBook → List (Option Ramp)
ramps_in x = x.ramps

-- of the places for a task's own steps, those in use
abbrev pub used : Steps → List Step
used own = take own.len own.list

-- the steps of each task
abbrev pub steps_in : StepBook → List (List Step)
steps_in x = map used x.steps

-- the weights themselves
abbrev pub weight_list : Weights → List ℕ
weight_list x = x.list

-- the weight of each task, over any book
abbrev pub weights_in : {B : Type 0} → Weighted B → List ℕ
weights_in x = weight_list x.weights
