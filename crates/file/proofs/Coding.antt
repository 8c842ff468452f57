-- Frames and their bytes: what is encoded is decoded again, and only that. Assumes nothing.
use Rattle.std.proofs.Common.{◌≡◌, refl, subst, sym, ap, ◌∙◌, ⊎_elim, Bool, true, false, List, [], ◌∷◌, ◌++◌, ℕ, zero, suc, ◌+◌, ◌-◌, ◌*◌, ◌/◌, ◌%◌, ◌^◌, ◌<◌, ◌≤◌, All, Option, Some, arith, if◌then◌else◌, length, sum, take, drop}
use Rattle.std.proofs.lemmas.Bool.{cases_lt}
use native.Mathlib.Numerals.{add-one}
use Rattle.std.proofs.lemmas.Grind.{common_steps}
use Rattle.std.proofs.lemmas.List.{drop_more, get_or_past, take_all, take_more}
use Rattle.std.proofs.lemmas.List.Elements.{All-from_recursion, All-append}
use Rattle.std.specs.List.{AllByRecursion}
use Rattle.std.proofs.lemmas.List.Sums.{sum_by-append}
use Rattle.file.specs.Frames.{Fits, Frame, at, body, closed, closing, decoded, encoded, hard, has_form, link, ramp, soft, step, task, three_at, two_at, weight}

-- Numbers in bytes.

of-two : (n : ℕ) → n < 2 ^ 16 → 256 * (n / 256 % 256) + n % 256 ≡ n
of-two n lt = omega (arith, lt)

of-three : (n : ℕ) → n < 2 ^ 24 → 65536 * (n / 65536 % 256) + 256 * (n / 256 % 256) + n % 256 ≡ n
of-three n lt = omega (arith, lt)

-- From a frame to its bytes and back.

pub decoded-encoded : (f : Frame) → Fits f → decoded (encoded f) ≡ Some f
unfolding decoded
decoded-encoded (task min max) fits = rw (of-two min fits.0, of-two max fits.1) refl
decoded-encoded (link a b) fits = refl
decoded-encoded (hard t d) fits = rw (of-three d fits.1) refl
decoded-encoded (ramp t p k z) fits = rw (of-three p fits.1, of-three k fits.2, of-three z fits.3) refl
decoded-encoded (soft t) fits = refl
decoded-encoded (step t u w) fits = rw (of-three u fits.1, of-three w fits.2) refl
decoded-encoded (weight t w) fits = refl

pub encoded-some : (f : Frame) → 0 < length (encoded f)
encoded-some (task min max) = omega arith
encoded-some (link a b) = omega arith
encoded-some (hard t d) = omega arith
encoded-some (ramp t p k z) = omega arith
encoded-some (soft t) = omega arith
encoded-some (step t u w) = omega arith
encoded-some (weight t w) = omega arith

-- Each byte of a frame is below 256.

rest : (n : ℕ) → n % 256 < 256
rest n = omega arith

body_bytes : (f : Frame) → Fits f → AllByRecursion (λ b. b < 256) (body f)
body_bytes (task min max) fits = (omega arith, (rest _, (rest _, (rest _, (rest _, tt)))))
body_bytes (link a b) fits = (omega arith, (fits.0, (fits.1, tt)))
body_bytes (hard t d) fits = (omega arith, (fits.0, (rest _, (rest _, (rest _, tt)))))
body_bytes (ramp t p k z) fits = (omega arith, (fits.0, (rest _, (rest _, (rest _, (rest _, (rest _, (rest _, (rest _, (rest _, (rest _, tt)))))))))))
body_bytes (soft t) fits = (omega arith, (fits, tt))
body_bytes (step t u w) fits = (omega arith, (fits.0, (rest _, (rest _, (rest _, (rest _, (rest _, (rest _, tt))))))))
body_bytes (weight t w) fits = (omega arith, (fits.0, (fits.1, tt)))

pub encoded-bytes : (f : Frame) → Fits f → All (λ b. b < 256) (encoded f)
encoded-bytes f fits =
    All-append (λ b. b < 256) (body f) (closing (body f) ∷ []) (All-from_recursion (λ b. b < 256) (body f) (body_bytes f fits))
    (All-from_recursion (λ b. b < 256) (closing (body f) ∷ []) (rest (256 - sum (body f) % 256), tt))

-- From bytes to a frame and back.

closing_is : (front : List ℕ) (k : ℕ) → k < 256 → sum (front ++ k ∷ []) % 256 ≡ 0 → closing front ≡ k
closing_is front k lt none = let e : sum (front ++ k ∷ []) ≡ sum front + (0 + k) = sum_by-append (λ x. x) front (k ∷ []) in
    omega (arith, lt, rw e at none)

-- n bytes from byte i on, one by one
abbrev pub spread : List ℕ → (i n : ℕ) → List ℕ
spread bs i zero = []
spread bs i (suc n) = at bs i ∷ spread bs (suc i) n

spread-take : (bs : List ℕ) (i n : ℕ) → i + n ≤ length bs → spread bs i n ≡ take n (drop i bs)
spread-take bs i zero within = refl
spread-take bs i (suc n) within = rw (drop_more bs i 0 (omega (arith, within)), add-one) (ap (λ (xs : List ℕ). at bs i ∷ xs) (spread-take bs (suc i) n (omega (arith, within))))

at_small : (bs : List ℕ) → All (λ b. b < 256) bs → (i : ℕ) → at bs i < 256
at_small bs small i = ⊎_elim (λ lt. small i 0 lt) (λ ge. rw (get_or_past bs i 0 ge) (omega arith)) (cases_lt i (length bs))

module _ (bs : List ℕ) (small : All (λ b. b < 256) bs) (closes : sum bs % 256 ≡ 0) where
  -- the frame whose bytes but the last are those of bs has the bytes of bs
  back : (f : Frame) (n : ℕ) → length bs ≡ suc n → body f ≡ spread bs 0 n → encoded f ≡ bs
  back f n long same =
      let front : body f ≡ take n bs = same ∙ spread-take bs 0 n (omega (arith, long)) in
      let whole : take n bs ++ at bs n ∷ [] ≡ bs = sym (take_more bs n 0 (omega (arith, long))) ∙ take_all (n + 1) bs (omega (arith, long)) in
      let last = closing_is (take n bs) (at bs n) (at_small bs small n) (rw whole closes) in
      rw (front, last) whole

  of_kind : (kind n : ℕ) → has_form bs kind n ≡ true → (at bs 0 ≡ kind) × (length bs ≡ n)
  of_kind kind n found = (grind (arith, common_steps), grind (arith, common_steps))

  byte : (i : ℕ) → at bs i < 256
  byte = at_small bs small

  -- the bytes of the numbers that stand in bs
  high : (i : ℕ) → two_at bs i / 256 % 256 ≡ at bs i
  high i = omega (arith, byte i, byte (i + 1))

  low : (i : ℕ) → two_at bs i % 256 ≡ at bs (i + 1)
  low i = omega (arith, byte i, byte (i + 1))

  first : (i : ℕ) → three_at bs i / 65536 % 256 ≡ at bs i
  first i = omega (arith, byte i, byte (i + 1), byte (i + 2))

  second : (i : ℕ) → three_at bs i / 256 % 256 ≡ at bs (i + 1)
  second i = omega (arith, byte i, byte (i + 1), byte (i + 2))

  third : (i : ℕ) → three_at bs i % 256 ≡ at bs (i + 2)
  third i = omega (arith, byte i, byte (i + 1), byte (i + 2))

  two_fits : (i : ℕ) → two_at bs i < 2 ^ 16
  two_fits i = omega (arith, byte i, byte (i + 1))

  three_fits : (i : ℕ) → three_at bs i < 2 ^ 24
  three_fits i = omega (arith, byte i, byte (i + 1), byte (i + 2))

  -- f fits, and its bytes are bs
  abbrev pub IsOf : Frame → Type 0
  IsOf f = Fits f × (encoded f ≡ bs)

  task_back : has_form bs 1 6 ≡ true → IsOf (task (two_at bs 1) (two_at bs 3))
  task_back found =
      let k = of_kind 1 6 found in
      ((two_fits 1, two_fits 3), back (task (two_at bs 1) (two_at bs 3)) 5 k.1 (rw (k.0, high 1, low 1, high 3, low 3) refl))

  link_back : has_form bs 2 4 ≡ true → IsOf (link (at bs 1) (at bs 2))
  link_back found = let k = of_kind 2 4 found in ((byte 1, byte 2), back (link (at bs 1) (at bs 2)) 3 k.1 (rw k.0 refl))

  hard_back : has_form bs 3 6 ≡ true → IsOf (hard (at bs 1) (three_at bs 2))
  hard_back found =
      let k = of_kind 3 6 found in
      ((byte 1, three_fits 2), back (hard (at bs 1) (three_at bs 2)) 5 k.1 (rw (k.0, first 2, second 2, third 2) refl))

  ramp_back : has_form bs 4 12 ≡ true → IsOf (ramp (at bs 1) (three_at bs 2) (three_at bs 5) (three_at bs 8))
  ramp_back found =
      let k = of_kind 4 12 found in (
        (byte 1, three_fits 2, three_fits 5, three_fits 8),
        back (ramp (at bs 1) (three_at bs 2) (three_at bs 5) (three_at bs 8)) 11 k.1
            (rw (k.0, first 2, second 2, third 2, first 5, second 5, third 5, first 8, second 8, third 8) refl),
      )

  soft_back : has_form bs 5 3 ≡ true → IsOf (soft (at bs 1))
  soft_back found = let k = of_kind 5 3 found in (byte 1, back (soft (at bs 1)) 2 k.1 (rw k.0 refl))

  step_back : has_form bs 6 9 ≡ true → IsOf (step (at bs 1) (three_at bs 2) (three_at bs 5))
  step_back found =
      let k = of_kind 6 9 found in (
        (byte 1, three_fits 2, three_fits 5),
        back (step (at bs 1) (three_at bs 2) (three_at bs 5)) 8 k.1
            (rw (k.0, first 2, second 2, third 2, first 5, second 5, third 5) refl),
      )

  weight_back : has_form bs 7 4 ≡ true → IsOf (weight (at bs 1) (at bs 2))
  weight_back found = let k = of_kind 7 4 found in ((byte 1, byte 2), back (weight (at bs 1) (at bs 2)) 3 k.1 (rw k.0 refl))

  -- the frame that one of the tests finds
  or_else : (b : Bool) (x f : Frame) (rest : Option Frame) → (b ≡ true → IsOf x) → (rest ≡ Some f → IsOf f) → (if b then Some x else rest) ≡ Some f → IsOf f
  or_else true x f rest here there found = subst IsOf (grind (arith, found)) (here refl)
  or_else false x f rest here there found = there found

  pub encoded-decoded : (f : Frame) → decoded bs ≡ Some f → Fits f × (encoded f ≡ bs)
  unfolding decoded
  encoded-decoded f found =
      or_else _ _ f _ task_back (or_else _ _ f _ link_back (or_else _ _ f _ hard_back (or_else _ _ f _ ramp_back (or_else _ _ f _ soft_back (or_else _ _ f _ step_back (or_else _ _ f _ weight_back (λ none. absurd (grind (arith, none))))))))) found

pub closed-zero : (bytes : List ℕ) → sum (closed bytes) % 256 ≡ 0
closed-zero bytes =
    let e : sum (closed bytes) ≡ sum bytes + (0 + closing bytes) = sum_by-append (λ x. x) bytes (closing bytes ∷ []) in
    rw e (omega arith)
