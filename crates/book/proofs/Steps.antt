-- Steps as the code reads and writes them. Assumes nothing.
use Rattle.std.proofs.Common.{◌≡◌, refl, sym, ap, ap₂, ◌∙◌, true, cond, ◌&&◌, List, [], ◌∷◌, ◌++◌, ℕ, zero, suc, ◌-◌, ◌≤◌, ◌<◌, max, arith, All, leb, length, get_or, set, slice_get, map}
use Rattle.std.specs.Option.{option_map_or}
use Rattle.std.proofs.lemmas.Grind.{common_steps}
use Rattle.std.proofs.lemmas.List.Elements.{All-nil, All-cons, All-head}
use Rattle.std.proofs.lemmas.List.{get_or-map, length-map, map-set}
use Rattle.common.specs.Refusals.{Answered}
use Rattle.book.specs.Lists.{steps_in, used}
use Rattle.book.specs.Steps.{Dropped, StepFits, Stepped, a_step, descends, drop_rows, step_rows, in_limits, longer, step_added, step_meaning, stepped, steps_dropped, steps_of, steps_worth}
use Rattle.book.specs.declared.step.Step.{Step}
use Rattle.book.specs.declared.step.StepBook.{StepBook}
use Rattle.book.specs.declared.step.Steps.{Steps}
use Rattle.book.specs.StepLaws.{parts}

-- ---- one step more

pub stepped-more : (ss : List Step) (x : Step) → stepped ss ≡ true → stepped (ss ++ x ∷ []) ≡ (in_limits x && option_map_or (λ s. descends s x) (slice_get ss (length ss - 1)) true)
unfolding stepped
stepped-more [] x ok = grind (arith, common_steps)
stepped-more (s ∷ []) x ok = grind (arith, common_steps)
stepped-more (s ∷ y ∷ ss) x ok =
    let more = stepped-more (y ∷ ss) x (parts s (y ∷ ss) ok).1 in
    let last : length (s ∷ y ∷ ss) - 1 ≡ suc (length (y ∷ ss) - 1) = omega arith in
    let same = ap (slice_get (s ∷ y ∷ ss)) last in
    grind (arith, common_steps)

-- with x at the end a task's steps keep their rule where x is in its limits and may stand behind the last one
pub stepped_end : (own : Steps) (x : Step) → stepped (used own ++ x ∷ []) ≡ (in_limits x && option_map_or (λ s. descends s x) (slice_get (used own) (length (used own) - 1)) true)
stepped_end own x = stepped-more (used own) x own.sound

-- the last step is worth no more than the first
last-least : (s : Step) (ss : List Step) (x : Step) → stepped (s ∷ ss ++ x ∷ []) ≡ true → x.worth ≤ s.worth
unfolding stepped
last-least s [] x ok = grind (arith, common_steps)
last-least s (y ∷ ss) x ok =
    let more = last-least y ss x (parts s (y ∷ ss ++ x ∷ []) ok).1 in
    grind (arith, common_steps)

pub steps-more : (ss : List Step) (x : Step) (at : ℕ) → stepped (ss ++ x ∷ []) ≡ true →
    steps_worth (ss ++ x ∷ []) at ≡ max (steps_worth ss at) (cond (leb at x.until) x.worth 0)
steps-more [] x at ok = grind (arith, common_steps)
steps-more (s ∷ ss) x at ok =
    let more = steps-more ss x at (parts s (ss ++ x ∷ []) ok).1 in
    let least = last-least s ss x ok in
    grind (arith, common_steps)

-- s is before x, and worth no less
abbrev pub Before : Step → Step → Type 0
Before x s = (s.until < x.until) × (x.worth ≤ s.worth)

all-before : (ss : List Step) (x : Step) → stepped (ss ++ x ∷ []) ≡ true → All (Before x) ss
unfolding stepped
all-before [] x ok = All-nil (Before x)
all-before (s ∷ []) x ok =
    let last : Before x s = grind (arith, common_steps) in
    All-cons (Before x) s [] last (All-nil (Before x))
all-before (s ∷ y ∷ ss) x ok =
    let more = all-before (y ∷ ss) x (parts s (y ∷ ss ++ x ∷ []) ok).1 in
    let next = All-head (Before x) y ss more in
    let this : Before x s = grind (arith, common_steps) in
    All-cons (Before x) s (y ∷ ss) this more

last-within : (ss : List Step) (x : Step) → stepped (ss ++ x ∷ []) ≡ true → in_limits x ≡ true
last-within [] x ok = (parts x [] ok).0
last-within (s ∷ ss) x ok = last-within ss x (parts s (ss ++ x ∷ []) ok).1

pub fits-within : (all : List (List Step)) (k until worth : ℕ) → k < 16 → stepped (longer all k until worth) ≡ true → length (steps_of all k) < 6 → StepFits all k until worth
fits-within all k until worth known fits room =
    let x = a_step until worth in
    let low = last-within (steps_of all k) x fits in
    record {
      known = known;
      in_time = grind (arith, common_steps);
      low = grind (arith, common_steps);
      behind = all-before (steps_of all k) x fits;
      room = room;
    }

-- ---- the calls that add and drop steps of task t, which stand at k

module _ (x : StepBook) (k t : ℕ) (place : (k ≡ t) × (t < 16)) where
  -- what the code reads there
  pub steps-at : (d : Steps) → steps_of (steps_in x) t ≡ used (get_or x.steps k d)
  steps-at d = ap (steps_of (steps_in x)) (sym place.0) ∙ get_or-map used x.steps k d [] (omega (arith, x.whole))

  -- and what it writes there
  pub written : (own : Steps) (ss : List Step) → used own ≡ ss → map used (set x.steps k own) ≡ set (steps_in x) t ss
  written own ss is = map-set used x.steps k own ∙ ap₂ (set (steps_in x)) place.0 is

-- what the accepted calls leave means what they promise
module _ (x : StepBook) (all : List (List Step)) (t : ℕ) where
  within : t < 16 → t < length (steps_in x)
  within known = omega (arith, length-map x.steps used, x.whole)

  pub dropped-means : Answered (drop_rows t) (steps_dropped (steps_in x) t) (steps_in x) all 0 → Dropped (steps_in x) all t 0
  dropped-means a task at =
      let known : t < 16 = grind (arith, common_steps, a.says) in
      let lt = within known in
      let e = ap (λ ys. step_meaning ys task at) a.leaves in
      grind (arith, common_steps)

  pub stepped-means : (until worth : ℕ) → Answered (step_rows (steps_in x) t until worth) (step_added (steps_in x) t until worth) (steps_in x) all 0 → Stepped (steps_in x) all t until worth 0
  stepped-means until worth a task at =
      let known : t < 16 = grind (arith, common_steps, a.says) in
      let fits : stepped (longer (steps_in x) t until worth) ≡ true = grind (arith, common_steps, a.says) in
      let lt = within known in
      let e = ap (λ ys. step_meaning ys task at) a.leaves in
      let more = steps-more (steps_of (steps_in x) t) (a_step until worth) at fits in
      grind (arith, common_steps)

  pub stepped-within : (until worth : ℕ) → Answered (step_rows (steps_in x) t until worth) (step_added (steps_in x) t until worth) (steps_in x) all 0 → StepFits (steps_in x) t until worth
  stepped-within until worth a = fits-within (steps_in x) t until worth (grind (arith, common_steps, a.says)) (grind (arith, common_steps, a.says)) (grind (arith, common_steps, a.says))

-- ---- the steps of each task

-- what holds of no steps and of a task's own steps holds of those of every number
pub of_each : (P : List Step → Type 0) → P [] → ((own : Steps) → P (used own)) → (all : List Steps) (k : ℕ) → P (steps_of (map used all) k)
of_each P none each [] k = none
of_each P none each (own ∷ all) zero = each own
of_each P none each (own ∷ all) (suc k) = of_each P none each all k

pub steps_kept : (all : List Steps) (k : ℕ) → stepped (steps_of (map used all) k) ≡ true
unfolding stepped
steps_kept = of_each (λ ss. stepped ss ≡ true) refl (λ own. own.sound)
