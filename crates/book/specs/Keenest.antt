-- The keenest task: what a soft task is worth at once, for each tick that it and all before it are expected to take. Assumes nothing.
--     soft t k             task k is soft
--     effort t k           the sum of the expected durations over the up-set of task k
--     Keenness m t k f     f is the worth of task k at time 0 divided by its effort; absent where it isn't soft
--     Keenest m t k        task k has the greatest such fraction, and no lower-numbered one has as great a one
use Rattle.std.specs.Prelude.{Bool, true, false, ◌≡◌, ℕ, ◌*◌, ◌≤◌, ◌<◌, MatchOption, Option}
use Rattle.book.specs.Worths.{Meaning}
use Rattle.common.specs.declared.fraction.Fraction.{Fraction}
use Rattle.sheet.specs.Links.{up}
use Rattle.sheet.specs.Tables.{Table, expected_of, is_soft, load_of, task_of}

abbrev pub soft : Table → ℕ → Bool
soft t k = is_soft (task_of t k).kind

abbrev pub effort : Table → ℕ → ℕ
effort t k = load_of expected_of t (λ u. up t u k)

abbrev pub Keenness : Meaning → Table → ℕ → Option Fraction → Type 0
Keenness m t k f = MatchOption f (soft t k ≡ false) (λ x. (soft t k ≡ true) × (x.num ≡ m k 0) × (x.den ≡ effort t k))

-- fractions compared by cross products: no effort is 0
pub record Keenest (m : Meaning) (t : Table) (k : ℕ) : Type 0 where
  pub is_soft : soft t k ≡ true
  pub some : (u : ℕ) → soft t u ≡ true → 0 < effort t u
  pub best : (u : ℕ) → soft t u ≡ true → m u 0 * effort t k ≤ m k 0 * effort t u
  pub lowest : (u : ℕ) → u < k → soft t u ≡ true → m u 0 * effort t k < m k 0 * effort t u
