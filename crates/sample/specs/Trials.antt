-- What a trial of a task behind a row finds. Assumes nothing.
--     TotalWith m t row k v    v is the total of the row with task k, or of the row where placing it would be refused
use Rattle.std.specs.Prelude.{◌≡◌, [], ◌∷◌, ◌++◌, ℕ}
use Rattle.book.specs.Worths.{Meaning}
use Rattle.plan.specs.Orders.{Order}
use Rattle.plan.specs.Totals.{total}
use Rattle.row.specs.Rows.{Leads}
use Rattle.sheet.specs.Tables.{Table}

pub record TotalWith (m : Meaning) (t : Table) (row : Order) (k v : ℕ) : Type 0 where
  pub placed : Leads t (row ++ k ∷ []) → v ≡ total m t (row ++ k ∷ [])
  pub refused : (Leads t (row ++ k ∷ []) → ⊥) → v ≡ total m t row
