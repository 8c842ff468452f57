-- Sets of task numbers. A set is a number: t is a member where its binary digit at t is 1. Assumes nothing.
--     bit s t            the binary digit of s at t, 0 or 1
--     has s t            t is a member of s
--     adding s t         s with t
--     removing s t       s without t
--     Lowest s t         t is the least member of s
--     any n p            some number below n passes p
--     sum_where p f n    the sum of f k over the numbers k below n that pass p
use Rattle.std.specs.Prelude.{◌≡◌, Bool, true, false, ◌||◌, ℕ, zero, suc, ◌+◌, ◌-◌, ◌/◌, ◌%◌, ◌^◌, ◌<◌, if◌then◌else◌, ◌==◌}

abbrev pub bit : ℕ → ℕ → ℕ
bit s t = s / 2 ^ t % 2

unfoldable pub has : ℕ → ℕ → Bool
has s t = bit s t == 1

abbrev pub adding : ℕ → ℕ → ℕ
adding s t = if has s t then s else s + 2 ^ t

abbrev pub removing : ℕ → ℕ → ℕ
removing s t = if has s t then s - 2 ^ t else s

pub record Lowest (s t : ℕ) : Type 0 where
  pub member : has s t ≡ true
  pub least : (u : ℕ) → u < t → has s u ≡ false

abbrev pub any : ℕ → (ℕ → Bool) → Bool
any zero p = false
any (suc n) p = any n p || p n

abbrev pub sum_where : (ℕ → Bool) → (ℕ → ℕ) → ℕ → ℕ
sum_where p f zero = 0
sum_where p f (suc n) = sum_where p f n + (if p n then f n else 0)
