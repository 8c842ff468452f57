-- The laws of ramps: what they mean is sound. No contract cites them. Assumes nothing.
use Rattle.std.proofs.Common.{◌≡◌, ap, subst, true, List, ℕ, ◌-◌, ◌*◌, ◌/◌, ◌≤◌, ◌<◌, mul-le-mul_left, mul_comm, div-mul-le_self, le_trans, arith, length, Option, Some, None}
use Rattle.std.proofs.Math.Nat.{div-le_of_le-mul}
use Rattle.std.proofs.lemmas.Grind.{common_steps}
use Rattle.std.proofs.lemmas.List.{get_or_past}
use Rattle.std.proofs.lemmas.Nat.{le-div}
use Rattle.book.specs.Lists.{ramps_in}
use Rattle.book.specs.Ramps.{keeps_rule, ramp_meaning, ramp_of, ramp_worth, slope}
use Rattle.book.specs.Worths.{top, Sound}
use Rattle.book.specs.declared.ramp.Ramp.{Ramp}
use Rattle.book.specs.declared.ramp.RampBook.{RampBook}

module _ (peak knee foot : ℕ) (down : knee < foot) where
  part-below : (at : ℕ) → knee < at → peak * (foot - at) / (foot - knee) ≤ peak
  part-below at h =
      div-le_of_le-mul (foot - knee) (subst (λ n. peak * (foot - at) ≤ n) (mul_comm peak (foot - knee)) (mul-le-mul_left peak (omega arith)))

  part-falls : (a b : ℕ) → a ≤ b → peak * (foot - b) / (foot - knee) ≤ peak * (foot - a) / (foot - knee)
  part-falls a b h = le-div _ _ _ (omega arith) (le_trans (div-mul-le_self _ _) (mul-le-mul_left peak (omega arith)))

  slope-below : (at : ℕ) → slope peak knee foot at ≤ peak
  unfolding slope
  slope-below at = let part = part-below at in grind (arith, common_steps)

  slope-falls : (a b : ℕ) → a ≤ b → slope peak knee foot b ≤ slope peak knee foot a
  unfolding slope
  slope-falls a b h = let part = part-falls a b h in let below = part-below b in grind (arith, common_steps)

ramp-low : (o : Option Ramp) (at : ℕ) → keeps_rule o ≡ true → ramp_worth o at ≤ top
ramp-low None at ok = omega arith
ramp-low (Some r) at ok = let below = slope-below r.peak r.knee r.foot in grind (arith, common_steps)

ramp-falls : (o : Option Ramp) (a b : ℕ) → keeps_rule o ≡ true → a ≤ b → ramp_worth o b ≤ ramp_worth o a
ramp-falls None a b ok h = omega arith
ramp-falls (Some r) a b ok h = slope-falls r.peak r.knee r.foot (grind (arith, common_steps)) a b h

-- a task above the last of the list has no ramp
pub no-ramp : (rs : List (Option Ramp)) (task at : ℕ) → length rs ≡ 16 → 16 ≤ task → ramp_meaning rs task at ≡ 0
no-ramp rs task at whole h = ap (λ o. ramp_worth o at) (get_or_past rs task None (omega arith))

pub listed-ramps-sound : (rs : List (Option Ramp)) → length rs ≡ 16 → ((k : ℕ) → keeps_rule (ramp_of rs k) ≡ true) → Sound (ramp_meaning rs)
listed-ramps-sound rs whole ok =
    record {
      bounded = λ task at. ramp-low (ramp_of rs task) at (ok task);
      falls = λ task a b. ramp-falls (ramp_of rs task) a b (ok task);
      bare = λ task at. no-ramp rs task at whole;
    }

pub ramps-sound : (x : RampBook) → Sound (ramp_meaning (ramps_in x))
ramps-sound x = listed-ramps-sound x.ramps x.whole x.sound
