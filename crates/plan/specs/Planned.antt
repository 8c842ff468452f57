-- What plan answers and leaves. Assumes nothing.
--     Suffices t cells order       there is a cell for each set of tasks, and a byte for each task
--     KeptFrom n xs ys             from n on, ys has what xs has
--     Ordered m t order order' v   order' begins with the best order, which totals v; the bytes behind it are as before
--     Planned ..                   the whole promise of plan: the cells are `cells` before and `cells'` after, the order `order` and
--                                  `order'`
use Rattle.std.specs.Prelude.{◌≡◌, ◌⊎◌, ◌↔◌, List, ℕ, ◌^◌, ◌≤◌, IfOk, Result, length, slice_index, take}
use Rattle.book.specs.Worths.{Meaning}
use Rattle.common.specs.Refusals.{number, outcome}
use Rattle.common.specs.declared.refusal.Refusal.{Refusal}
use Rattle.common.specs.declared.refusal.Refusal.TheVariants.{NoOrder, Memory}
use Rattle.plan.specs.Cells.{Filled}
use Rattle.plan.specs.Orders.{NoLawful}
use Rattle.plan.specs.Totals.{Best, Runs, total}
use Rattle.sheet.specs.Tables.{Table}

abbrev pub Suffices : Table → (cells order : List ℕ) → Type 0
Suffices t cells order = (2 ^ length t ≤ length cells) × (length t ≤ length order)

abbrev pub KeptFrom : ℕ → (xs ys : List ℕ) → Type 0
KeptFrom n xs ys = (length ys ≡ length xs) × ((k : ℕ) → n ≤ k → slice_index ys k ≡ slice_index xs k)

pub record Ordered (m : Meaning) (t : Table) (order order' : List ℕ) (v : ℕ) : Type 0 where
  pub best : Best m t (take (length t) order')
  pub totals : v ≡ total m t (take (length t) order')
  pub runs : Runs m t (take (length t) order')
  pub kept : KeptFrom (length t) order order'

pub record Planned (m : Meaning) (t : Table) (cells cells' order order' : List ℕ) (r : Result ℕ Refusal) : Type 0 where
  -- refused for memory exactly where it does not suffice, and then nothing is written
  pub memory : (outcome r ≡ number Memory) ↔ (Suffices t cells order → ⊥)
  pub unwritten : outcome r ≡ number Memory → (cells' ≡ cells) × (order' ≡ order)
  -- else each set has its cell, and the cells past those are as before
  pub fills : Suffices t cells order → Filled m t cells' × KeptFrom (2 ^ length t) cells cells'
  -- refused for want of an order exactly where memory suffices and no order is lawful; the order buffer is as before
  pub none : (outcome r ≡ number NoOrder) ↔ (Suffices t cells order × NoLawful t)
  pub unordered : outcome r ≡ number NoOrder → order' ≡ order
  -- else a total, and the best order, which has it
  pub answer : IfOk r (Ordered m t order order')
  pub only : (outcome r ≡ 0) ⊎ (outcome r ≡ number NoOrder) ⊎ (outcome r ≡ number Memory)
