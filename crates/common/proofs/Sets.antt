-- The laws of the sets of specs/Sets.antt. Assumes nothing.
use Rattle.std.proofs.Common.{Decides, ◌≡◌, refl, sym, ap, ◌∙◌, ⊎_elim, Bool, true, false, not, ◌&&◌, ◌||◌, ℕ, zero, suc, ◌+◌, ◌-◌, ◌*◌, ◌/◌, ◌%◌, ◌^◌, ◌≤◌, ◌<◌, arith, bit_and, bit_or, eqb, ltb, mul-suc}
use Rattle.std.proofs.lemmas.Bool.{cases_eq, cases_lt}
use Rattle.std.proofs.lemmas.Bool.Decides.{Decides-below_or, Decides-eqb, Decides-like, nat_tests}
use Rattle.std.proofs.Math.Bool.{or_comm}
use Rattle.std.proofs.lemmas.Grind.{common_steps}
use Rattle.std.proofs.lemmas.Nat.{and-not, and_comm, one_shl, ones_cat, or_lt, pow_below, pow_pos, shr_split}
use Rattle.std.proofs.lemmas.Nat.Bits.{and_pow, bit_at-lt, bit_at-pow_same, bit_at-pow_other, bit_at-trailing_zeros, bit_at-zero, bit_at_above, bit_at_ones, bit_at_ones_above, bit_at_and, bit_at_or, same_from_bits, shr_and_one}
use Rattle.std.proofs.Math.Nat.{div-eq-sub-div, mod-lt}
use Rattle.std.specs.Int.{w16}
use Rattle.std.specs.Int.RustNames.{count_ones}
use lib.Count.{count_trailing_zeros, ones_step}
use lib.Bits.{or_add_and}
use Rattle.common.specs.Sets.{has, adding, removing, any, sum_where}

-- ---- members

pub has-past : (s u : ℕ) → s < 65536 → 16 ≤ u → has s u ≡ false
unfolding has
has-past s u h le = ap (λ x. eqb x 1) (bit_at_above s 16 u h le)

pub has-none : (u : ℕ) → has 0 u ≡ false
unfolding has
has-none u = ap (λ x. eqb x 1) (bit_at-zero u)

-- a set is no less than the digit of its member
has-least : (s t : ℕ) → has s t ≡ true → 2 ^ t ≤ s
unfolding has
has-least s t e = grind (arith, nat_tests, bit_at_above s t t)

-- a set is its members
pub same-set : (a b : ℕ) → ((u : ℕ) → has a u ≡ has b u) → a ≡ b
unfolding has
same-set a b same = same_from_bits a b (λ u. grind (arith, nat_tests, same u, bit_at-lt a u, bit_at-lt b u))

-- ---- one more and one less

pub or-adding : (s t : ℕ) → bit_or s (2 ^ t) ≡ adding s t
unfolding has
or-adding s t = grind (arith, nat_tests, or_add_and s (2 ^ t), and_pow s t, bit_at-lt s t)

pub has-adding : (s t u : ℕ) → has (adding s t) u ≡ (has s u || eqb u t)
unfolding has
has-adding s t u = grind (arith, nat_tests, or-adding s t, bit_at_or s (2 ^ t) u, bit_at-lt s u, bit_at-pow_same t, bit_at-pow_other t u)

-- a member that was taken out is no member
has-removed : (s t : ℕ) → has (removing s t) t ≡ false
unfolding has
has-removed s t = grind (arith, nat_tests, bit_at_above s t t, div-eq-sub-div {m = 2 ^ t} {n = s}, pow_pos t)

-- put in again, it gives the set back
pub has-removing : (s t u : ℕ) → has (removing s t) u ≡ (has s u && not (eqb u t))
has-removing s t u = grind (arith, nat_tests, has-least s t, has-removed s t, has-adding (removing s t) t u)

-- ---- the bits of src/task_set.rt

pub bits_contain : (s t : ℕ) → eqb (bit_and (s / 2 ^ t) 1) 1 ≡ has s t
unfolding has
bits_contain s t = ap (λ x. eqb x 1) (shr_and_one s t)

pub bits_with : (s t : ℕ) → t < 16 → bit_or s (1 * 2 ^ t % 65536) ≡ adding s t
bits_with s t lt = ap (bit_or s) (one_shl t 16 lt) ∙ or-adding s t

pub bits_without : (s t : ℕ) → s < 65536 → t < 16 → bit_and s (65535 - 1 * 2 ^ t % 65536) ≡ removing s t
unfolding has
bits_without s t h lt =
    grind (arith, nat_tests, one_shl t 16 lt, and-not 16 (2 ^ t) s (pow_below t 16 lt) h, and_comm s (65535 - 2 ^ t), and_comm s (2 ^ t), and_pow s t, bit_at-lt s t)

pub bits_lowest : (s : ℕ) → 0 < s → s < 65536 → has s (count_trailing_zeros 16 s) ≡ true
unfolding has
bits_lowest s pos small = ap (λ x. eqb x 1) (bit_at-trailing_zeros w16 s pos small).1

pub bits_below_lowest : (s u : ℕ) → 0 < s → s < 65536 → u < count_trailing_zeros 16 s → has s u ≡ false
unfolding has
bits_below_lowest s u pos small lt = ap (λ x. eqb x 1) ((bit_at-trailing_zeros w16 s pos small).2 u lt)

pub bits_joined : (a b u : ℕ) → has (bit_or a b) u ≡ (has a u || has b u)
unfolding has
bits_joined a b u = grind (arith, nat_tests, bit_at_or a b u, bit_at-lt a u, bit_at-lt b u)

pub bits_within : (a b : ℕ) → Decides (eqb (bit_and a b) a) ((u : ℕ) → has a u ≡ true → has b u ≡ true)
unfolding has
bits_within a b =
    Decides-like _
    (λ e u h. grind (arith, nat_tests, e, bit_at_and a b u, bit_at-lt b u))
    (λ f. same_from_bits (bit_and a b) a (λ u. let g = f u in grind (arith, nat_tests, bit_at_and a b u, bit_at-lt a u, bit_at-lt b u)))
    (Decides-eqb (bit_and a b) a)

-- what finds that the code's operations on bits are those of sets
pub ruleset members = (has-past, has-none, has-adding, has-removing, bits_contain, bits_with, bits_without, bits_lowest, bits_below_lowest, bits_joined, bits_within)

-- ---- what some number passes, and sums

pub any-decides : (n : ℕ) (p : ℕ → Bool) (P : ℕ → Type 0) → ((k : ℕ) → Decides (p k) (P k)) → Decides (any n p) ((k : ℕ) × (k < n) × P k)
any-decides n p P each = Decides-below_or p P (λ n. any n p) each refl (λ n. or_comm (any n p) (p n)) n

pub sum-same : (p q : ℕ → Bool) (f : ℕ → ℕ) (n : ℕ) → ((k : ℕ) → k < n → p k ≡ q k) → sum_where p f n ≡ sum_where q f n
sum-same p q f zero same = refl
sum-same p q f (suc n) same = grind (arith, common_steps, sum-same p q f n (λ k h. same k (omega arith)), same n)

-- fewer numbers pass, so the sum is no greater; less, where one that adds to it is left out
module _ (p q : ℕ → Bool) (f : ℕ → ℕ) (each : (k : ℕ) → p k ≡ true → q k ≡ true) where
  pub sum-within : (n : ℕ) → sum_where p f n ≤ sum_where q f n
  sum-within zero = omega arith
  sum-within (suc n) = grind (arith, common_steps, sum-within n, each n)

  pub sum-less : (n k : ℕ) → k < n → p k ≡ false → q k ≡ true → 0 < f k → sum_where p f n < sum_where q f n
  sum-less zero k h out in' pos = absurd (omega arith)
  sum-less (suc n) k h out in' pos = grind (arith, common_steps, sum-less n k, sum-within n, each n)

-- ---- one member more

pub adding-more : (s k : ℕ) → has s k ≡ false → s < adding s k
adding-more s k out = grind (arith, nat_tests, out, pow_pos k)

pub adding-below : (n s k : ℕ) → s < 2 ^ n → k < n → adding s k < 2 ^ n
adding-below n s k h lt = rw (← or-adding s k) (or_lt n s (2 ^ k) h (pow_below k n lt))

pub sum-adding : (f : ℕ → ℕ) (s k n : ℕ) → has s k ≡ false → k < n → sum_where (has (adding s k)) f n ≡ sum_where (has s) f n + f k
sum-adding f s k zero out lt = absurd (omega arith)
sum-adding f s k (suc n) out lt =
    ⊎_elim
    (λ e. let below = sum-same (has (adding s k)) (has s) f n (λ j h. grind (arith, nat_tests, has-adding s k j)) in
    grind (arith, nat_tests, has-adding s k n, below, out, e))
    (λ ne. grind (arith, nat_tests, sum-adding f s k n out (omega arith), has-adding s k n))
    (cases_eq k n)

pub sum-none : (p : ℕ → Bool) (f : ℕ → ℕ) (n : ℕ) → ((k : ℕ) → k < n → p k ≡ false) → sum_where p f n ≡ 0
sum-none p f zero none = refl
sum-none p f (suc n) none = grind (arith, common_steps, sum-none p f n (λ k h. none k (omega arith)), none n)

-- a set of one member more counts one more
pub ones-adding : (s k : ℕ) → has s k ≡ false → count_ones (adding s k) ≡ count_ones s + 1
unfolding has
ones-adding s k out =
    let q = s / 2 ^ k in
    let low = mod-lt s (pow_pos k) in
    let split = shr_split s k in
    let even : q % 2 ≡ 0 = grind (arith, nat_tests, bit_at-lt s k) in
    let whole : adding s k ≡ (q + 1) * 2 ^ k + s % 2 ^ k = grind (arith, nat_tests) in
    let half : (q + 1) / 2 ≡ q / 2 = omega arith in
    omega (
      arith,
      ap count_ones whole,
      ones_cat k (q + 1) (s % 2 ^ k) low,
      ones_cat k q (s % 2 ^ k) low,
      ap count_ones split,
      ones_step (q + 1),
      ones_step q,
      ap count_ones half,
    )

-- ---- one member less

pub removing-less : (s k : ℕ) → has s k ≡ true → removing s k < s
removing-less s k member = grind (arith, nat_tests, member, pow_pos k, has-least s k)

pub sum-removing : (f : ℕ → ℕ) (s k n : ℕ) → has s k ≡ true → k < n → sum_where (has s) f n ≡ sum_where (has (removing s k)) f n + f k
sum-removing f s k n member lt =
    let back : adding (removing s k) k ≡ s = grind (arith, nat_tests, member, has-least s k, has-removed s k) in
    rw back at (sum-adding f (removing s k) k n (has-removed s k) lt)

-- ---- sets below a power of two, and the greatest of them

pub has-below : (n s k : ℕ) → s < 2 ^ n → has s k ≡ true → k < n
unfolding has
has-below n s k h e = ⊎_elim (λ lt. lt) (λ ge. let z = bit_at_above s n k h ge in grind (arith, nat_tests)) (cases_lt k n)

pub has-all : (n k : ℕ) → has (2 ^ n - 1) k ≡ ltb k n
unfolding has
has-all n k = grind (arith, nat_tests, bit_at_ones n k, bit_at_ones_above n k)

-- a set that has all below n is the greatest
pub all-members : (n s : ℕ) → s < 2 ^ n → ((k : ℕ) → k < n → has s k ≡ true) → s ≡ 2 ^ n - 1
all-members n s h each =
    same-set s (2 ^ n - 1) (λ u. ⊎_elim (λ lt. each u lt ∙ sym (grind (arith, nat_tests, has-all n u))) (λ ge. grind (arith, nat_tests, has-all n u, has-below n s u h)) (cases_lt u n))

-- ---- sums of what is at most c, and how many numbers pass

pub sum-small : (p : ℕ → Bool) (f : ℕ → ℕ) (c n : ℕ) → ((k : ℕ) → k < n → f k ≤ c) → sum_where p f n ≤ c * n
sum-small p f c zero each = omega arith
sum-small p f c (suc n) each = grind (arith, common_steps, sum-small p f c n (λ k h. each k (omega arith)), each n, mul-suc c n)

pub count-all : (p : ℕ → Bool) (n : ℕ) → ((k : ℕ) → k < n → p k ≡ true) → sum_where p (λ _. 1) n ≡ n
count-all p zero each = refl
count-all p (suc n) each = grind (arith, common_steps, count-all p n (λ k h. each k (omega arith)), each n)

pub all-counted : (p : ℕ → Bool) (n : ℕ) → sum_where p (λ _. 1) n ≡ n → (k : ℕ) → k < n → p k ≡ true
all-counted p zero e k lt = absurd (omega arith)
all-counted p (suc n) e k lt =
    let few = sum-small p (λ _. 1) 1 n (λ j h. omega arith) in
    ⊎_elim (λ q. grind (arith, common_steps, q)) (λ ne. all-counted p n (grind (arith, common_steps)) k (omega arith)) (cases_eq k n)
