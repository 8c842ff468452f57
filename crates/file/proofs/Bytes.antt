-- The bytes that pairs of digits stand for. Assumes nothing.
use Rattle.std.proofs.Common.{◌≡◌, refl, ◌∙◌, List, [], ◌∷◌, ℕ, zero, suc, ◌+◌, ◌*◌, ◌/◌, ◌<◌, ◌≤◌, None, arith, drop, get_or, length, take, sum}
use Rattle.std.proofs.lemmas.Grind.{common_steps}
use Rattle.std.proofs.lemmas.List.{ext_get_or, get_or-take, length-take-le}
use Rattle.std.proofs.lemmas.List.Sums.{sum_by-cons}
use Rattle.file.specs.Frames.{decoded}
use Rattle.file.specs.Lines.{bytes_of, value}

pub length-bytes_of : (ds : List ℕ) → length (bytes_of ds) ≡ length ds / 2
length-bytes_of [] = refl
length-bytes_of (h ∷ []) = refl
length-bytes_of (h ∷ l ∷ ds) = let e = length-bytes_of ds in omega (arith, e)

-- byte i is that of the digits 2 i and 2 i + 1, and 0 past the end
pub byte_at : (ds : List ℕ) (i : ℕ) → 2 * i + 1 < length ds → get_or (bytes_of ds) i 0 ≡ 16 * value (get_or ds (2 * i) 0) + value (get_or ds (2 * i + 1) 0)
byte_at [] i lt = absurd (omega arith)
byte_at (h ∷ []) i lt = absurd (omega arith)
byte_at (h ∷ l ∷ ds) zero lt = refl
byte_at (h ∷ l ∷ ds) (suc i) lt =
    let e : 2 * suc i ≡ suc (suc (2 * i)) = omega arith in
    let f : 2 * suc i + 1 ≡ suc (suc (2 * i + 1)) = omega arith in
    rw (f, e) (byte_at ds i (omega arith))

pub byte_past : (ds : List ℕ) (i : ℕ) → length ds ≤ 2 * i + 1 → get_or (bytes_of ds) i 0 ≡ 0
byte_past [] i ge = refl
byte_past (h ∷ []) i ge = refl
byte_past (h ∷ l ∷ ds) zero ge = absurd (omega arith)
byte_past (h ∷ l ∷ ds) (suc i) ge = byte_past ds i (omega arith)

-- the sum begins with the byte of the first two digits
pub sum_first : (ds : List ℕ) → 2 ≤ length ds → sum (bytes_of ds) ≡ 16 * value (get_or ds 0 0) + value (get_or ds 1 0) + sum (bytes_of (drop 2 ds))
sum_first [] few = absurd (omega arith)
sum_first (h ∷ []) few = absurd (omega arith)
sum_first (h ∷ l ∷ ds) few = sum_by-cons (λ x. x) (16 * value h + value l) (bytes_of ds)

pub sum_few : (ds : List ℕ) → length ds ≤ 1 → sum (bytes_of ds) ≡ 0
sum_few [] few = refl
sum_few (h ∷ []) few = refl
sum_few (h ∷ l ∷ ds) few = absurd (omega arith)

pub ruleset paired = (byte_at, byte_past, sum_first, sum_few)

-- a frame has at most twelve bytes
pub decoded_long : (bs : List ℕ) → 12 < length bs → decoded bs ≡ None
unfolding decoded
decoded_long bs long = grind (arith, common_steps)

-- a list whose front has the bytes
pub front_is : (xs ds : List ℕ) → length ds / 2 ≤ length xs → length xs ≤ 12 → ((k : ℕ) → k < 12 → get_or xs k 0 ≡ get_or (bytes_of ds) k 0) → take (length ds / 2) xs ≡ bytes_of ds
front_is xs ds within few same =
    let long = length-bytes_of ds in
    let short = length-take-le (length ds / 2) xs within in
    ext_get_or 0 _ _ (rw (short, long) refl) (λ k lt. get_or-take (length ds / 2) xs k 0 (omega (arith, lt, short)) ∙ same k (omega (arith, lt, short)))

pub ruleset framed = (front_is, decoded_long, length-bytes_of)
