-- What may come next after the tasks of a set, and what is earned then: what plan works out on its way. Assumes nothing.
--     May t s k             task k may come right after the tasks of the set s
--     Next m t s k v        v is one more than the greatest that a continuation of s earns whose first task is k; 0 where none is
--     Begins n o            the first task of o is below n
--     Upto m t s n v        the same of those whose first task is below n
--     Worse m t s n v       each of those earns less than v says
--     First m t s k v       k is the first task with which the value v of the cell of s is reached
--     FilledFrom m t n cells    the sets from number n on have their cells
use Rattle.std.specs.Prelude.{◌≡◌, false, true, List, [], ◌∷◌, ℕ, ◌+◌, ◌^◌, ◌<◌, ◌≤◌, length, slice_index}
use Rattle.book.specs.Worths.{Meaning}
use Rattle.common.specs.Sets.{has}
use Rattle.plan.specs.Cells.{Cell, Greatest, left}
use Rattle.plan.specs.Orders.{Continuation, Order, maximum}
use Rattle.sheet.specs.Links.{linked}
use Rattle.sheet.specs.Tables.{Table, load_of, maximum_of, task_of}
use Rattle.sheet.specs.declared.table.Kind.TheVariants.{Hard}

pub record May (t : Table) (s k : ℕ) : Type 0 where
  pub task : k < length t
  pub out : has s k ≡ false
  pub ready : (a : ℕ) → linked t a k ≡ true → has s a ≡ true
  pub timely : (d : ℕ) → (task_of t k).kind ≡ Hard d → load_of maximum_of t (has s) + maximum t k ≤ d

abbrev pub Next : Meaning → Table → (s k v : ℕ) → Type 0
Next m t s k v = Greatest (λ o. Continuation t s (k ∷ o)) (λ o. left m t s (k ∷ o)) v

abbrev pub Begins : ℕ → Order → Type 0
Begins n [] = ⊥
Begins n (k ∷ o) = k < n

abbrev pub Upto : Meaning → Table → (s n v : ℕ) → Type 0
Upto m t s n v = Greatest (λ o. Begins n o × Continuation t s o) (left m t s) v

abbrev pub Worse : Meaning → Table → (s n v : ℕ) → Type 0
Worse m t s n v = (o : Order) → Begins n o → Continuation t s o → left m t s o + 1 < v

pub record First (m : Meaning) (t : Table) (s k v : ℕ) : Type 0 where
  pub task : k < length t
  pub next : Next m t s k v
  pub worse : Worse m t s k v

abbrev pub FilledFrom : Meaning → Table → ℕ → List ℕ → Type 0
FilledFrom m t n cells = (s : ℕ) → n ≤ s → s < 2 ^ length t → Cell m t s (slice_index cells s)
