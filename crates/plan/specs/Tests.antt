-- Tests of plans that compute, by listing every order of a small table. Assumes nothing.
--     in_time t s k        task k, if it is hard, ends by its deadline right after the tasks of the set s
--     may t s k            task k may come right after the tasks of s
--     goes t s o           the order o may follow the tasks of s
--     orders t n s         every list of n tasks outside s, each once, in dictionary order, lawful or not
--     following t s        the orders that may follow s, in dictionary order
--     before o p           o comes before p: place by place, the smaller task number first
--     behind m t o v p     p is o, or totals less than v, or totals v and comes after o
--     is_best m t o v      o is the best order, and totals v
--     is_cell m t s v      the cell of s holds v
--     none_lawful t        no order is lawful
--     PlanTests t          these tests, which compute, find exactly what the relations of plans say
--     Found m t ..         they find exactly what plan answers and leaves: plan answers r, and leaves the cells cells' and the order
--                          buffer order'
--     TestsAnswer t        they do of every call of plan on the table t for which memory suffices
use Rattle.std.specs.Prelude.{◌≡◌, Decides, Bool, true, false, not, ◌&&◌, ◌||◌, List, [], ◌∷◌, ℕ, zero, suc, ◌+◌, ◌-◌, ◌^◌, ◌<◌, ◌==◌, nat_le, nat_lt, cond, bytes_eq, filter, flat_map, map, length, slice_index, Result, Ok, Err}
use Rattle.std.specs.List.{list_all, list_any, range_with_len}
use Rattle.std.specs.Option.{option_map_or}
use Rattle.book.specs.Worths.{Meaning}
use Rattle.common.specs.Sets.{adding, any, has}
use Rattle.common.specs.declared.refusal.Refusal.{Refusal}
use Rattle.common.specs.declared.refusal.Refusal.TheVariants.{NoOrder}
use Rattle.plan.specs.BestOrder.{answered}
use Rattle.plan.specs.Cells.{Cell, left}
use Rattle.plan.specs.Orders.{Continuation, NoLawful, Order, maximum}
use Rattle.plan.specs.Planned.{Planned, Suffices}
use Rattle.plan.specs.Totals.{Best, total}
use Rattle.sheet.specs.Links.{linked}
use Rattle.sheet.specs.Margins.{deadline_of}
use Rattle.sheet.specs.Tables.{Table, load_of, maximum_of, task_of}

-- where it and the tasks of s take their maxima
abbrev pub in_time : Table → (s k : ℕ) → Bool
in_time t s k = option_map_or (λ d. nat_le (load_of maximum_of t (has s) + maximum t k) d) (deadline_of (task_of t k).kind) true

abbrev pub may : Table → (s k : ℕ) → Bool
may t s k = nat_lt k (length t) && (not (has s k) && (not (any (length t) (λ a. linked t a k && not (has s a))) && in_time t s k))

abbrev pub goes : Table → ℕ → Order → Bool
goes t s [] = not (any (length t) (λ k. not (has s k)))
goes t s (k ∷ o) = may t s k && goes t (adding s k) o

abbrev pub orders : Table → ℕ → ℕ → List Order
orders t zero s = [] ∷ []
orders t (suc n) s = flat_map (λ k. cond (has s k) [] (map (λ o. k ∷ o) (orders t n (adding s k)))) (range_with_len 0 (length t))

-- of all the lists of as many tasks as are outside s
abbrev pub following : Table → ℕ → List Order
following t s = filter (goes t s) (orders t (length t - load_of (λ x. 1) t (has s)) s)

abbrev pub before : Order → Order → Bool
before [] [] = false
before [] (u ∷ p) = true
before (k ∷ o) [] = false
before (k ∷ o) (u ∷ p) = nat_lt k u || (k == u && before o p)

abbrev pub behind : Meaning → Table → Order → ℕ → Order → Bool
behind m t o v p = bytes_eq p o || (nat_lt (total m t p) v || (total m t p == v && before o p))

abbrev pub is_best : Meaning → Table → Order → ℕ → Bool
is_best m t o v = goes t 0 o && (v == total m t o && list_all (behind m t o v) (following t 0))

abbrev pub is_cell : Meaning → Table → (s v : ℕ) → Bool
is_cell m t s v = list_all (λ o. nat_lt (left m t s o) v) (following t s) && (v == 0 || list_any (λ o. v == left m t s o + 1) (following t s))

abbrev pub none_lawful : Table → Bool
none_lawful t = length (following t 0) == 0

pub record PlanTests (t : Table) : Type 0 where
  pub goes : (s : ℕ) (o : Order) → Decides (goes t s o) (Continuation t s o)
  pub best : (m : Meaning) (o : Order) (v : ℕ) → Decides (is_best m t o v) (Best m t o × (v ≡ total m t o))
  pub cell : (m : Meaning) (s v : ℕ) → Decides (is_cell m t s v) (Cell m t s v)
  pub none : Decides (none_lawful t) (NoLawful t)

pub record Found (m : Meaning) (t : Table) (cells' order' : List ℕ) (r : Result ℕ Refusal) : Type 0 where
  -- o is the best order and totals v, exactly where v is answered and o stands at the front of the buffer
  pub best : (o : Order) (v : ℕ) → Decides (is_best m t o v) ((r ≡ Ok v) × (answered t order' ≡ o))
  -- no order is lawful, exactly where that is answered
  pub none : Decides (none_lawful t) (r ≡ Err NoOrder)
  -- the cell of s holds v, exactly where v is left there
  pub cell : (s v : ℕ) → s < 2 ^ length t → Decides (is_cell m t s v) (slice_index cells' s ≡ v)

abbrev pub TestsAnswer : Table → Type 0
TestsAnswer t =
    (m : Meaning) (cells cells' order order' : List ℕ) (r : Result ℕ Refusal) →
    Planned m t cells cells' order order' r → Suffices t cells order → Found m t cells' order' r
