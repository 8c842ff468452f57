-- No order earns more than the top for each of its tasks. Assumes nothing.
use Rattle.std.proofs.Common.{[], ◌∷◌, ℕ, ◌+◌, ◌*◌, ◌≤◌, arith, length, mul-suc}
use Rattle.std.proofs.lemmas.Grind.{common_steps}
use Rattle.book.specs.Worths.{Meaning, Sound, top}
use Rattle.plan.specs.Orders.{Order}
use Rattle.plan.specs.Totals.{earned}
use Rattle.sheet.specs.Tables.{Table}

pub earned-small : (m : Meaning) → Sound m → (t : Table) (r : ℕ → ℕ) (from : ℕ) (o : Order) → earned m t r from o ≤ top * length o
earned-small m sound t r from [] = omega arith
earned-small m sound t r from (k ∷ o) =
    let more = earned-small m sound t r (from + r k) o in
    let bound = sound.bounded k (from + r k) in
    grind (arith, common_steps, mul-suc top (length o))
