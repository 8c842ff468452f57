-- What each cell of a plan holds. A set of tasks is a number, and its cell is the one with that number. Assumes nothing.
--     left m t s o           what the order o earns at expected durations, where it starts after the tasks of the set s
--     Greatest passes f v    v is one more than the greatest f of an order that passes, and 0 where none does
--     Cell m t s v           v is one more than the greatest that a continuation of s earns, and 0 where there is none
--     Filled m t cells       each set of tasks has its cell, whether or not it has the predecessors of its tasks
use Rattle.std.specs.Prelude.{◌≡◌, ◌⊎◌, List, ℕ, ◌+◌, ◌^◌, ◌<◌, length, slice_index}
use Rattle.book.specs.Worths.{Meaning}
use Rattle.common.specs.Sets.{has}
use Rattle.plan.specs.Orders.{Continuation, Order, expected}
use Rattle.plan.specs.Totals.{earned}
use Rattle.sheet.specs.Tables.{Table, expected_of, load_of}

abbrev pub left : Meaning → Table → ℕ → Order → ℕ
left m t s o = earned m t (expected t) (load_of expected_of t (has s)) o

pub record Greatest (passes : Order → Type 0) (f : Order → ℕ) (v : ℕ) : Type 0 where
  pub bound : (o : Order) → passes o → f o < v
  pub met : (v ≡ 0) ⊎ ((o : Order) × passes o × (v ≡ f o + 1))

abbrev pub Cell : Meaning → Table → ℕ → ℕ → Type 0
Cell m t s v = Greatest (Continuation t s) (left m t s) v

abbrev pub Filled : Meaning → Table → List ℕ → Type 0
Filled m t cells = (s : ℕ) → s < 2 ^ length t → Cell m t s (slice_index cells s)
