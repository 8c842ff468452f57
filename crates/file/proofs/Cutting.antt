-- How the first piece is cut off, and what the blanks at an end are to a name. Assumes nothing.
use Rattle.std.proofs.Common.{◌≡◌, ◌≢◌, refl, ap, Bool, true, false, cond, eqb, ltb, List, [], ◌∷◌, ℕ, suc, ◌+◌, ◌-◌, arith, drop, get_or, length, take}
use Rattle.std.proofs.lemmas.Bool.Decides.{nat_tests}
use Rattle.std.proofs.lemmas.Grind.{common_steps}
use Rattle.std.specs.List.{onto_first, position_or_len}
use Rattle.file.specs.Lines.{pieces}
use Rattle.file.specs.Names.{trimmed}

-- ---- the first piece

abbrev pub ends : ℕ → Bool
ends b = eqb b 10

-- one past the first 0A, or the length
abbrev pub first_len : List ℕ → ℕ
first_len [] = 0
first_len (b ∷ bs) = cond (ends b) 1 (suc (first_len bs))

pub first_cut : (bs : List ℕ) → length bs ≢ 0 → pieces bs ≡ take (first_len bs) bs ∷ pieces (drop (first_len bs) bs)
first_cut [] some = absurd (some refl)
first_cut (b ∷ []) some = grind (arith, nat_tests)
first_cut (b ∷ c ∷ bs) some = by (ends b) (first_cut (c ∷ bs) (λ e. absurd (omega arith)))
  where
    by : (t : Bool) → pieces (c ∷ bs) ≡ take (first_len (c ∷ bs)) (c ∷ bs) ∷ pieces (drop (first_len (c ∷ bs)) (c ∷ bs))
        → cond t ((b ∷ []) ∷ pieces (c ∷ bs)) (onto_first b (pieces (c ∷ bs))) ≡ take (cond t 1 (suc (first_len (c ∷ bs)))) (b ∷ c ∷ bs) ∷ pieces (drop (cond t 1 (suc (first_len (c ∷ bs)))) (b ∷ c ∷ bs))
    by true more = refl
    by false more = ap (onto_first b) more

pub first_len_at : (bs : List ℕ) → first_len bs ≡ cond (ltb (position_or_len ends bs) (length bs)) (position_or_len ends bs + 1) (length bs)
first_len_at [] = refl
first_len_at (b ∷ bs) = let e = first_len_at bs in grind (arith, nat_tests, common_steps)

-- ---- blanks at the end

-- a last blank may be left out
pub trimmed_front : (bs : List ℕ) → get_or bs (length bs - 1) 0 ≡ 32 → trimmed (take (length bs - 1) bs) ≡ trimmed bs
unfolding trimmed
trimmed_front [] blank = refl
trimmed_front (b ∷ []) blank = grind (arith, nat_tests)
trimmed_front (b ∷ c ∷ bs) blank = let e : length (b ∷ c ∷ bs) - 1 ≡ suc (length (c ∷ bs) - 1) = omega arith in rw e (rw (trimmed_front (c ∷ bs) (rw e at blank)) refl)

-- without one, all is left
pub trimmed_whole : (bs : List ℕ) → get_or bs (length bs - 1) 0 ≢ 32 → trimmed bs ≡ bs
unfolding trimmed
trimmed_whole [] other = refl
trimmed_whole (b ∷ []) other = grind (arith, nat_tests)
trimmed_whole (b ∷ c ∷ bs) other = let e : length (b ∷ c ∷ bs) - 1 ≡ suc (length (c ∷ bs) - 1) = omega arith in rw (trimmed_whole (c ∷ bs) (rw e at other)) (grind (arith, nat_tests))
