-- What orders earn under the meaning m of a book, and which lawful order is the best. Assumes nothing.
--     earns m t k at        what task k is worth if it ends at the time: nothing unless it is soft
--     earned m t r from o   the sum of that over the tasks of o, where the first of them starts at `from`, each starts as the one
--                           before it ends, and each takes as long as r says
--     total m t o           that sum where every task takes as long as is expected
--     Before o p            the order o comes before p: place by place, the smaller task number first, and a front part before the
--                           whole
--     Best m t o            o is the first of the lawful orders with the greatest total
--     Runs m t o            what any run of o earns, and when its tasks end
use Rattle.std.specs.Prelude.{◌≡◌, ◌≢◌, ◌⊎◌, [], ◌∷◌, ℕ, ◌+◌, ◌<◌, ◌≤◌, if◌then◌else◌, length}
use Rattle.book.specs.Keenest.{soft}
use Rattle.book.specs.Worths.{Meaning}
use Rattle.plan.specs.Orders.{InTime, Lawful, Order, expected, maximum}
use Rattle.sheet.specs.Tables.{Table}

abbrev pub earns : Meaning → Table → (k at : ℕ) → ℕ
earns m t k at = if soft t k then m k at else 0

abbrev pub earned : Meaning → Table → (r : ℕ → ℕ) (from : ℕ) → Order → ℕ
earned m t r from [] = 0
earned m t r from (k ∷ o) = earns m t k (from + r k) + earned m t r (from + r k) o

abbrev pub total : Meaning → Table → Order → ℕ
total m t o = earned m t (expected t) 0 o

abbrev pub Before : Order → Order → Type 0
Before [] [] = ⊥
Before [] (u ∷ p) = Unit {0}
Before (k ∷ o) [] = ⊥
Before (k ∷ o) (u ∷ p) = (k < u) ⊎ ((k ≡ u) × Before o p)

pub record Best (m : Meaning) (t : Table) (o : Order) : Type 0 where
  pub lawful : Lawful t o
  -- every other lawful order totals less, or the same and comes later
  pub first : (p : Order) → Lawful t p → p ≢ o → (total m t p < total m t o) ⊎ ((total m t p ≡ total m t o) × Before o p)

-- a run: r says how long each task takes, 0 or more ticks
pub record Runs (m : Meaning) (t : Table) (o : Order) : Type 0 where
  -- where no task takes longer than is expected, what is earned is at least the total
  pub earn : (r : ℕ → ℕ) → ((k : ℕ) → k < length t → r k ≤ expected t k) → total m t o ≤ earned m t r 0 o
  -- where no task exceeds its maximum, every hard task ends by its deadline
  pub meet : (r : ℕ → ℕ) → ((k : ℕ) → k < length t → r k ≤ maximum t k) → InTime t r 0 o
