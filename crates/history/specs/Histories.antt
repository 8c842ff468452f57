-- What a history of calls makes of a new sheet, by the calls' arguments alone. Assumes nothing.
--     after t call         the table after the call: a refused call, a load with a fault and a plan leave it; a load without one
--                          makes it the file's; any other changes it as the call says
--     resulting history    the table that the whole history makes of a new sheet
--     Left m t call ..     what the call leaves in the memory lent for plans, where it is made on the table t: the cells are `cells`
--                          before and `cells'` after, the order `order` and `order'`. Only a plan writes there, in the front part that
--                          it is given: so many cells and bytes, or all where there are fewer
--     Passed m t calls ..  what all the calls leave there
--     Replayed ..          the same of the whole history on a new sheet, and then of the plan that answers r
use Rattle.std.specs.Prelude.{◌≡◌, List, [], ◌∷◌, ℕ, Result, Ok, Err, drop, fold, take}
use Rattle.book.specs.Worths.{Meaning}
use Rattle.common.specs.declared.refusal.Refusal.{Refusal}
use Rattle.file.specs.Faults.{Figures}
use Rattle.file.specs.Loads.{Made, loaded}
use Rattle.history.specs.declared.Call.{Call}
use Rattle.history.specs.declared.Call.TheVariants.{Sheet, Load, Plan}
use Rattle.plan.specs.Planned.{Planned}
use Rattle.sheet.specs.Calls as sheet
use Rattle.sheet.specs.Tables.{Table}

abbrev pub tasks_or : Table → Result Made Figures → Table
tasks_or t (Ok m) = m.tasks
tasks_or t (Err fault) = t

abbrev pub after : Table → Call → Table
after t (Sheet call) = sheet.after t call
after t (Load file) = tasks_or t (loaded file.now)
after t (Plan n k) = t

abbrev pub resulting : List Call → Table
resulting history = fold after [] history

abbrev pub Left : Meaning → Table → Call → (cells cells' order order' : List ℕ) → Type 0
Left m t (Sheet call) cells cells' order order' = (cells' ≡ cells) × (order' ≡ order)
Left m t (Load file) cells cells' order order' = (cells' ≡ cells) × (order' ≡ order)
Left m t (Plan n k) cells cells' order order' =
    (r : Result ℕ Refusal) × Planned m t (take n cells) (take n cells') (take k order) (take k order') r
    × (drop n cells' ≡ drop n cells) × (drop k order' ≡ drop k order)

abbrev pub Passed : Meaning → Table → List Call → (cells cells' order order' : List ℕ) → Type 0
Passed m t [] cells cells' order order' = (cells' ≡ cells) × (order' ≡ order)
Passed m t (call ∷ calls) cells cells' order order' =
    (c o : List ℕ) × Left m t call cells c order o × Passed m (after t call) calls c cells' o order'

pub record Replayed (m : Meaning) (history : List Call) (cells cells' order order' : List ℕ) (r : Result ℕ Refusal) : Type 0 where
  -- the memory as the calls of the history leave it
  pub c : List ℕ
  pub o : List ℕ
  pub calls : Passed m [] history cells c order o
  -- and what the plan at the end makes of it
  pub plan : Planned m (resulting history) c cells' o order' r
