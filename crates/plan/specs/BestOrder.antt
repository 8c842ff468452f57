-- What is stated of the answer of plan. Assumes nothing.
--     answered t order'    the order that is answered: it stands at the front of the buffer
--     BestOrder ..         it, for the table t under the meaning m of a book: plan answers r; the cells are `cells` before, and the
--                          order buffer is `order` before and `order'` after
use Rattle.std.specs.Prelude.{◌≡◌, ◌≢◌, ◌⊎◌, ◌↔◌, List, ℕ, ◌<◌, ◌≤◌, IfOk, Result, length, take}
use Rattle.book.specs.Worths.{Meaning}
use Rattle.common.specs.Refusals.{number, outcome}
use Rattle.common.specs.declared.refusal.Refusal.{Refusal}
use Rattle.common.specs.declared.refusal.Refusal.TheVariants.{NoOrder}
use Rattle.plan.specs.Orders.{InTime, Lawful, NoLawful, Order, expected, maximum}
use Rattle.plan.specs.Planned.{Suffices}
use Rattle.plan.specs.Totals.{Before, earned, total}
use Rattle.sheet.specs.Tables.{Table}

abbrev pub answered : Table → List ℕ → Order
answered t order' = take (length t) order'

pub record BestOrder (m : Meaning) (t : Table) (cells order order' : List ℕ) (r : Result ℕ Refusal) : Type 0 where
  -- an order that is answered is lawful: it has each task once, it keeps the links, and at maximum durations all hard deadlines
  pub lawful : IfOk r (λ sum. Lawful t (answered t order'))
  -- the total answered with it is the sum of the worths of its soft tasks at their expected completion times
  pub sums : IfOk r (λ sum. sum ≡ total m t (answered t order'))
  -- every other lawful order sums to less, or to the same and comes later by task numbers
  pub best : IfOk r (λ sum. (p : Order) → Lawful t p → p ≢ answered t order' →
      (total m t p < sum) ⊎ ((total m t p ≡ sum) × Before (answered t order') p))
  -- where memory suffices, 10 is answered exactly when no order is lawful,
  pub none : Suffices t cells order → (outcome r ≡ number NoOrder) ↔ NoLawful t
  -- and otherwise a total and an order
  pub some : Suffices t cells order → (outcome r ≡ number NoOrder) ⊎ (outcome r ≡ 0)
  -- whatever time each task of a run of that order takes: where no task takes longer than is expected, the sum that is earned is at
  -- least the total
  pub earns : IfOk r (λ sum. (run : ℕ → ℕ) → ((k : ℕ) → k < length t → run k ≤ expected t k) →
      sum ≤ earned m t run 0 (answered t order'))
  -- where no task exceeds its maximum, every hard task ends by its deadline
  pub meets : IfOk r (λ sum. (run : ℕ → ℕ) → ((k : ℕ) → k < length t → run k ≤ maximum t k) →
      InTime t run 0 (answered t order'))
