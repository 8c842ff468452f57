-- Rows: the first tasks of an order, laid by hand. A row lists task numbers, as an order does. Assumes nothing.
--     joined s row          the set s with the tasks of the row
--     set_of row            the set of the tasks of the row
--     Leads t row           some lawful order begins with the row
--     Applies t row k n     the refusal with the number n applies to placing task k behind the row
--     Judged t row k n      placing task k behind the row answers n: the smallest number of a refusal that applies, 0 where none
--                           does
--     First t row o         o is the first of the lawful orders that begin with the row, place by place
--     Lowest t row o        at each place behind the row stands the lowest task that placing accepts there
use Rattle.std.specs.Prelude.{◌≡◌, ◌≢◌, ◌↔◌, true, ◌⊎◌, [], ◌∷◌, ◌++◌, ℕ, ◌<◌, ◌≤◌, length}
use Rattle.common.specs.Refusals.{number}
use Rattle.common.specs.Sets.{adding}
use Rattle.common.specs.declared.refusal.Refusal.TheVariants.{UnknownTask, Placed, NotReady, NoOrderSo}
use Rattle.plan.specs.Orders.{Lawful, Order, times}
use Rattle.plan.specs.Totals.{Before}
use Rattle.sheet.specs.Links.{linked}
use Rattle.sheet.specs.Tables.{Table}

abbrev pub joined : ℕ → Order → ℕ
joined s [] = s
joined s (k ∷ row) = joined (adding s k) row

abbrev pub set_of : Order → ℕ
set_of row = joined 0 row

abbrev pub Leads : Table → Order → Type 0
Leads t row = (o : Order) × Lawful t (row ++ o)

pub data Applies (t : Table) (row : Order) (k : ℕ) : ℕ → Type 0 where
  -- there is no such task
  unknown : length t ≤ k → Applies t row k (number UnknownTask)
  -- it is in the row
  placed : 0 < times k row → Applies t row k (number Placed)
  -- a direct predecessor is not in the row
  not_ready : (a : ℕ) → linked t a k ≡ true → times a row ≡ 0 → Applies t row k (number NotReady)
  -- no lawful order begins with the row and then the task
  no_order_so : (Leads t (row ++ k ∷ []) → ⊥) → Applies t row k (number NoOrderSo)

pub record Judged (t : Table) (row : Order) (k n : ℕ) : Type 0 where
  pub applies : (n ≡ 0) ⊎ Applies t row k n
  pub smallest : (j : ℕ) → Applies t row k j → (0 < n) × (n ≤ j)
  -- so it is accepted exactly where some lawful order begins with the row and then the task
  pub accepted : (n ≡ 0) ↔ Leads t (row ++ k ∷ [])

pub record First (t : Table) (row o : Order) : Type 0 where
  pub lawful : Lawful t o
  pub begins : (rest : Order) × (o ≡ row ++ rest)
  -- every other lawful order that begins with the row comes later
  pub first : (rest : Order) → Lawful t (row ++ rest) → row ++ rest ≢ o → Before o (row ++ rest)

abbrev pub Lowest : Table → (row o : Order) → Type 0
Lowest t row o = (before : Order) (k : ℕ) (behind : Order) (u : ℕ) → o ≡ row ++ before ++ k ∷ behind → Leads t (row ++ before ++ u ∷ []) → k ≤ u
