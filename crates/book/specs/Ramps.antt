-- Ramps: what one is worth at a time, and what the call that sets one answers and leaves. Assumes nothing.
--     slope peak knee foot at    the worth of a ramp at a time
--     sloped peak knee foot      the numbers keep the rule of a ramp
--     ramp_of rs k               the ramp of task k; absent past the end
--     ramp_meaning rs            what the ramps mean
--     RampFits k peak knee foot  what an accepted call that sets a ramp keeps
use Rattle.std.specs.Prelude.{Bool, true, not, ◌&&◌, List, [], ◌∷◌, ◌≡◌, ℕ, ◌-◌, ◌*◌, ◌/◌, ◌≤◌, ◌<◌, nat_le, nat_lt, slice_index_or, set, replicate, Option, Some, None, if◌then◌else◌, ◌==◌}
use Rattle.book.specs.Worths.{Meaning, top, latest}
use Rattle.book.specs.declared.ramp.Ramp.{Ramp}
use Rattle.common.specs.Refusals.{Rows, number}
use Rattle.common.specs.declared.refusal.Refusal.TheVariants.{UnknownTask, BookRule}

-- the peak up to the knee, then a straight fall, rounded down, and 0 from the foot on
unfoldable pub slope : (peak knee foot at : ℕ) → ℕ
slope peak knee foot at =
    if nat_le at knee then peak
    else (if nat_lt at foot then peak * (foot - at) / (foot - knee) else 0)

abbrev pub sloped : (peak knee foot : ℕ) → Bool
sloped peak knee foot = nat_le peak top && (nat_lt knee foot && nat_le foot latest)

abbrev pub ramp_worth : Option Ramp → ℕ → ℕ
ramp_worth None at = 0
ramp_worth (Some r) at = slope r.peak r.knee r.foot at

abbrev pub keeps_rule : Option Ramp → Bool
keeps_rule None = true
keeps_rule (Some r) = sloped r.peak r.knee r.foot

abbrev pub ramp_of : List (Option Ramp) → ℕ → Option Ramp
ramp_of rs k = slice_index_or rs k None

abbrev pub ramp_meaning : List (Option Ramp) → Meaning
ramp_meaning rs task at = ramp_worth (ramp_of rs task) at

abbrev pub no_ramps : List (Option Ramp)
no_ramps = replicate 16 None

-- the refusals that setting a ramp may get
abbrev pub ramp_rows : (k peak knee foot : ℕ) → Rows
ramp_rows k peak knee foot = (nat_le 16 k, number UnknownTask) ∷ (not (sloped peak knee foot), number BookRule) ∷ []

-- the call that sets the ramp of task k is accepted only within these limits
pub record RampFits (k peak knee foot : ℕ) : Type 0 where
  pub known : k < 16
  pub low : peak ≤ top
  pub down : knee < foot
  pub in_time : foot ≤ latest

-- the ramps with a new one for task k
abbrev pub ramped : List (Option Ramp) → (k peak knee foot : ℕ) → List (Option Ramp)
ramped rs k peak knee foot = set rs k (Some (record { peak = peak; knee = knee; foot = foot }))

-- the call that answers n turns the ramps rs into rs': where it is accepted, task k has the new worths; every other worth stays
abbrev pub Ramped : (rs rs' : List (Option Ramp)) (k peak knee foot n : ℕ) → Type 0
Ramped rs rs' k peak knee foot n =
    (task at : ℕ) → ramp_meaning rs' task at ≡
    (if n == 0 && task == k then slope peak knee foot at else ramp_meaning rs task at)
