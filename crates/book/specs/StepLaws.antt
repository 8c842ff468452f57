-- The laws of steps: what they mean is sound. No contract cites them. Assumes nothing.
use Rattle.std.proofs.Common.{◌≡◌, ◌∙◌, refl, ap, true, List, [], ◌∷◌, ℕ, zero, suc, ◌≤◌, arith, if◌then◌else◌, length, map, nat_le}
use Rattle.std.proofs.lemmas.Grind.{common_steps}
use Rattle.std.proofs.lemmas.List.{get_or_past, length-map}
use Rattle.book.specs.Lists.{steps_in, used}
use Rattle.book.specs.Steps.{in_limits, step_meaning, stepped, steps_of, steps_worth}
use Rattle.book.specs.Worths.{top, Sound}
use Rattle.book.specs.declared.step.Step.{Step}
use Rattle.book.specs.declared.step.StepBook.{StepBook}
use Rattle.book.specs.declared.step.Steps.{Steps}

-- the rule of the first step, and of those behind it
pub parts : (s : Step) (ss : List Step) → stepped (s ∷ ss) ≡ true → (in_limits s ≡ true) × (stepped ss ≡ true)
unfolding stepped
parts s [] ok = (ok, refl)
parts s (x ∷ ss) ok = grind (arith, common_steps)

-- without steps a task is worth nothing; with some, the first if it reaches the time, and else what those behind it are
pub steps-none : (at : ℕ) → steps_worth [] at ≡ 0
steps-none at = refl

pub steps-first : (s : Step) (ss : List Step) (at : ℕ) → steps_worth (s ∷ ss) at ≡ (if nat_le at s.until then s.worth else steps_worth ss at)
steps-first s ss at = grind (arith, common_steps)

pub steps-low : (ss : List Step) (at : ℕ) → stepped ss ≡ true → steps_worth ss at ≤ top
steps-low [] at ok = omega arith
steps-low (s ∷ ss) at ok =
    let both = parts s ss ok in
    let low = steps-low ss at both.1 in
    grind (arith, common_steps)

-- what comes behind a step is worth no more
behind-low : (s : Step) (ss : List Step) (at : ℕ) → stepped (s ∷ ss) ≡ true → steps_worth ss at ≤ s.worth
unfolding stepped
behind-low s [] at ok = omega arith
behind-low s (x ∷ ss) at ok =
    let low = behind-low x ss at (parts s (x ∷ ss) ok).1 in
    grind (arith, common_steps)

pub steps-fall : (ss : List Step) (a b : ℕ) → stepped ss ≡ true → a ≤ b → steps_worth ss b ≤ steps_worth ss a
steps-fall [] a b ok h = omega arith
steps-fall (s ∷ ss) a b ok h =
    let low = behind-low s ss b ok in
    let more = steps-fall ss a b (parts s ss ok).1 h in
    grind (arith, common_steps)

each-stepped : (all : List Steps) (k : ℕ) → stepped (steps_of (map used all) k) ≡ true
unfolding stepped
each-stepped [] k = refl
each-stepped (own ∷ all) zero = own.sound
each-stepped (own ∷ all) (suc k) = each-stepped all k

-- a task above the last of the list has no steps
pub no_step : (all : List (List Step)) (task at : ℕ) → length all ≡ 16 → 16 ≤ task → step_meaning all task at ≡ 0
no_step all task at whole h = ap (λ ss. steps_worth ss at) (get_or_past all task [] (omega arith))

pub listed-steps-sound : (all : List (List Step)) → length all ≡ 16 → ((k : ℕ) → stepped (steps_of all k) ≡ true) → Sound (step_meaning all)
listed-steps-sound all whole ok =
    record {
      bounded = λ task at. steps-low (steps_of all task) at (ok task);
      falls = λ task a b. steps-fall (steps_of all task) a b (ok task);
      bare = λ task at. no_step all task at whole;
    }

pub steps-sound : (x : StepBook) → Sound (step_meaning (steps_in x))
steps-sound x = listed-steps-sound (steps_in x) (length-map x.steps used ∙ x.whole) (each-stepped x.steps)
