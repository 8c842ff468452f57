-- Tests of rows that compute, by listing every order of a small table that begins with a row. Assumes nothing.
--     rests t row          every list of the tasks outside the row, each once, in dictionary order
--     leads t row          some lawful order begins with the row
--     lacks t row k        a direct predecessor of task k is not in the row
--     is_judged t row k n  placing task k behind the row answers n
--     ahead t o p          the order p isn't lawful, or is o, or comes after o
--     is_first t row o     o is the first of the lawful orders that begin with the row
--     RowTests t           these tests, which compute, find exactly what the relations of rows say
use Rattle.std.specs.Prelude.{Decides, Bool, not, ◌&&◌, ◌||◌, [], ◌∷◌, ◌++◌, List, ℕ, ◌-◌, ◌==◌, nat_le, nat_lt, bytes_eq, length}
use Rattle.std.specs.List.{list_all, list_any, starts_with}
use Rattle.common.specs.Refusals.{first_fit}
use Rattle.common.specs.Sets.{any}
use Rattle.plan.specs.Tests.{before, goes, orders}
use Rattle.plan.specs.Orders.{Order, times}
use Rattle.row.specs.Rows.{First, Judged, Leads, set_of}
use Rattle.sheet.specs.Links.{linked}
use Rattle.sheet.specs.Tables.{Table}

abbrev pub rests : Table → Order → List Order
rests t row = orders t (length t - length row) (set_of row)

abbrev pub leads : Table → Order → Bool
leads t row = list_any (λ rest. goes t 0 (row ++ rest)) (rests t row)

abbrev pub lacks : Table → Order → ℕ → Bool
lacks t row k = any (length t) (λ a. linked t a k && times a row == 0)

-- the first that fits: there is no such task; it is in the row; a direct predecessor is not; no lawful order begins so
abbrev pub is_judged : Table → Order → (k n : ℕ) → Bool
is_judged t row k n =
    n == first_fit
    ((nat_le (length t) k, 1) ∷ (nat_lt 0 (times k row), 15) ∷ (lacks t row k, 16) ∷ (not (leads t (row ++ k ∷ [])), 17) ∷ [])

abbrev pub ahead : Table → (o p : Order) → Bool
ahead t o p = not (goes t 0 p) || (bytes_eq p o || before o p)

abbrev pub is_first : Table → (row o : Order) → Bool
is_first t row o = goes t 0 o && (starts_with (λ x y. x == y) o row && list_all (λ rest. ahead t o (row ++ rest)) (rests t row))

pub record RowTests (t : Table) : Type 0 where
  pub leads : (row : Order) → Decides (leads t row) (Leads t row)
  pub judged : (row : Order) (k n : ℕ) → Decides (is_judged t row k n) (Judged t row k n)
  pub first : (row o : Order) → Decides (is_first t row o) (First t row o)
