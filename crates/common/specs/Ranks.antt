-- The choice of the first best. Assumes nothing.
use Rattle.std.specs.Prelude.{Bool, true, false, List, ◌≡◌, ℕ, ◌<◌, slice_index_or, Option, Some, None}

-- ranks of which some are absent: any rank beats an absent one
abbrev pub or_absent : {R : Type 0} → (R → R → Bool) → Option R → Option R → Bool
or_absent beats (Some x) (Some y) = beats x y
or_absent beats (Some x) None = true
or_absent beats None y = false

-- of ranks of which some are absent, the one at i is the first best of those that are there
pub record FirstPresent {R : Type 0} (beats : R → R → Bool) (xs : List (Option R)) (i : ℕ) : Type 0 where
  pub rank : R
  pub there : slice_index_or xs i None ≡ Some rank
  pub best : (k : ℕ) (x : R) → slice_index_or xs k None ≡ Some x → beats x rank ≡ false
  pub first : (k : ℕ) (x : R) → k < i → slice_index_or xs k None ≡ Some x → beats rank x ≡ true
