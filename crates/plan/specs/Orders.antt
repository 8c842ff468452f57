-- Orders of the tasks of a table, and which of them are lawful. No book is asked here. Assumes nothing.
--     expected t k          how long task k is expected to take
--     maximum t k           how long it takes at most
--     times k o             how often the order o lists k
--     end r from before k   the time at which k ends, right after the tasks of `before`: the first starts at `from`, each starts as
--                           the one before it ends, and each takes as long as r says
--     InTime t r from o     so run, every hard task of o ends by its deadline
--     Lawful t o            each task stands in o once, no link is broken, and no hard task is late at maximum durations
--     NoLawful t            no order is
--     Continuation t s o    o may follow the tasks of the set s, in the same sense
use Rattle.std.specs.Prelude.{◌≡◌, true, not, ◌&&◌, ◌⊎◌, List, ◌∷◌, ◌++◌, ℕ, ◌+◌, ◌<◌, ◌≤◌, ◌==◌, nat_lt, if◌then◌else◌, count_by, sum_by, length}
use Rattle.common.specs.Sets.{has}
use Rattle.sheet.specs.Links.{linked}
use Rattle.sheet.specs.Tables.{Table, expected_of, load_of, maximum_of, task_of}
use Rattle.sheet.specs.declared.table.Kind.TheVariants.{Hard}

-- task numbers, the first to run first
abbrev pub Order : Type 0
Order = List ℕ

abbrev pub expected : Table → ℕ → ℕ
expected t k = expected_of (task_of t k)

abbrev pub maximum : Table → ℕ → ℕ
maximum t k = maximum_of (task_of t k)

abbrev pub times : ℕ → Order → ℕ
times k o = count_by (λ x. x == k) o

abbrev pub end : (r : ℕ → ℕ) (from : ℕ) (before : Order) (k : ℕ) → ℕ
end r from before k = from + sum_by r before + r k

abbrev pub InTime : Table → (r : ℕ → ℕ) (from : ℕ) → Order → Type 0
InTime t r from o =
    (before : Order) (k : ℕ) (behind : Order) (d : ℕ) → o ≡ before ++ k ∷ behind → (task_of t k).kind ≡ Hard d → end r from before k ≤ d

pub record Lawful (t : Table) (o : Order) : Type 0 where
  -- each task is listed once, and nothing else is
  pub once : (k : ℕ) → times k o ≡ (if nat_lt k (length t) then 1 else 0)
  -- the first task of each link stands before the second
  pub links : (before : Order) (k : ℕ) (behind : Order) (a : ℕ) → o ≡ before ++ k ∷ behind → linked t a k ≡ true → 0 < times a before
  -- each hard task ends by its deadline where every task takes its maximum
  pub deadlines : InTime t (maximum t) 0 o

abbrev pub NoLawful : Table → Type 0
NoLawful t = (o : Order) → Lawful t o → ⊥

pub record Continuation (t : Table) (s : ℕ) (o : Order) : Type 0 where
  -- each task outside s is listed once, and nothing else is
  pub once : (k : ℕ) → times k o ≡ (if nat_lt k (length t) && not (has s k) then 1 else 0)
  -- each direct predecessor is in s or stands earlier
  pub links : (before : Order) (k : ℕ) (behind : Order) (a : ℕ) → o ≡ before ++ k ∷ behind → linked t a k ≡ true →
      (has s a ≡ true) ⊎ (0 < times a before)
  -- each hard task of o ends by its deadline where the tasks of s ran before and every task takes its maximum
  pub deadlines : InTime t (maximum t) (load_of maximum_of t (has s)) o
