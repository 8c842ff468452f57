-- Steps: what those of a task are worth at a time, and what the calls that add and drop them answer and leave. Assumes nothing.
--     steps_worth ss at    the worth of the steps at a time
--     stepped ss           the steps keep their rule
--     steps_of all k       the steps of task k; none past the end
--     step_meaning all     what the steps of all tasks mean
--     StepFits all k until worth    what an accepted call that adds a step keeps
use Rattle.std.specs.Prelude.{Bool, true, not, ◌&&◌, List, [], ◌∷◌, ◌++◌, ◌≡◌, ℕ, ◌≤◌, ◌<◌, max, nat_le, nat_lt, length, slice_index_or, set, replicate, find, if◌then◌else◌, ◌==◌, All}
use Rattle.book.specs.Worths.{Meaning, top, latest}
use Rattle.book.specs.declared.step.Step.{Step}
use Rattle.std.specs.Option.{option_map_or}
use Rattle.common.specs.Refusals.{Rows, number}
use Rattle.common.specs.declared.refusal.Refusal.TheVariants.{UnknownTask, BookRule, StepsFull}

-- the worth of the first step whose until is at least the time, and 0 after the last
abbrev pub steps_worth : List Step → ℕ → ℕ
steps_worth ss at = option_map_or (λ s. s.worth) (find (λ s. nat_le at s.until) ss) 0

abbrev pub in_limits : Step → Bool
in_limits s = nat_le s.until latest && nat_le s.worth top

-- x may stand right behind s
abbrev pub descends : Step → Step → Bool
descends s x = nat_lt s.until x.until && nat_le x.worth s.worth

unfoldable pub stepped : List Step → Bool
stepped [] = true
stepped (s ∷ []) = in_limits s
stepped (s ∷ x ∷ ss) = in_limits s && (descends s x && stepped (x ∷ ss))

abbrev pub a_step : (until worth : ℕ) → Step
a_step until worth = record { until = until; worth = worth }

abbrev pub blank : Step
blank = a_step 0 0

abbrev pub steps_of : List (List Step) → ℕ → List Step
steps_of all k = slice_index_or all k []

abbrev pub step_meaning : List (List Step) → Meaning
step_meaning all task at = steps_worth (steps_of all task) at

abbrev pub no_steps : List (List Step)
no_steps = replicate 16 []

-- the steps of task k with one more
abbrev pub longer : List (List Step) → (k until worth : ℕ) → List Step
longer all k until worth = steps_of all k ++ a_step until worth ∷ []

-- the refusals that adding a step for task k may get: with it at the end, the steps must keep their rule
abbrev pub step_rows : List (List Step) → (k until worth : ℕ) → Rows
step_rows all k until worth =
    (nat_le 16 k, number UnknownTask) ∷ (not (stepped (longer all k until worth)), number BookRule)
    ∷ (nat_le 6 (length (steps_of all k)), number StepsFull) ∷ []

-- the call that adds a step for task k is accepted only within these limits: it reaches further than each step that is there, and
-- is worth no more
pub record StepFits (all : List (List Step)) (k until worth : ℕ) : Type 0 where
  pub known : k < 16
  pub in_time : until ≤ latest
  pub low : worth ≤ top
  pub behind : All (λ s. (s.until < until) × (worth ≤ s.worth)) (steps_of all k)
  pub room : length (steps_of all k) < 6

abbrev pub step_added : List (List Step) → (k until worth : ℕ) → List (List Step)
step_added all k until worth = set all k (longer all k until worth)

-- the refusals that dropping the steps of task k may get
abbrev pub drop_rows : (k : ℕ) → Rows
drop_rows k = (nat_le 16 k, number UnknownTask) ∷ []

abbrev pub steps_dropped : List (List Step) → ℕ → List (List Step)
steps_dropped all k = set all k []

-- what a task is worth at a time with a step more: the greater of what it was and of what the step is worth up to its until
abbrev pub raised : (was until worth at : ℕ) → ℕ
raised was until worth at = max was (if nat_le at until then worth else 0)

-- the call that answers n leaves the steps all': where it is accepted, task k has a step more; every other worth stays
abbrev pub Stepped : (all all' : List (List Step)) (k until worth n : ℕ) → Type 0
Stepped all all' k until worth n =
    (task at : ℕ) → step_meaning all' task at ≡
    (if n == 0 && task == k then raised (step_meaning all task at) until worth at else step_meaning all task at)

-- the call that answers n leaves the steps all': where it is accepted, task k is worth nothing; every other worth stays
abbrev pub Dropped : (all all' : List (List Step)) (k n : ℕ) → Type 0
Dropped all all' k n =
    (task at : ℕ) → step_meaning all' task at ≡ (if n == 0 && task == k then 0 else step_meaning all task at)
