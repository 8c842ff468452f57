-- What the library answers for a sheet file. Assumes nothing.
--     refused n       what is answered for a refusal with the number n
--     counted r       what step_make answers
--     answered r      what is answered for what plan answers
--     Numbered m ..   plan keeps its promise for what is made, and its answer is told by one number
--     Plans r ..      what step_plan answers and leaves: the cells are `cells` before and `cells'` after, the order `order` and
--                     `order'`
use Rattle.std.specs.Prelude.{◌≡◌, List, ℕ, ◌+◌, ◌<◌, length, Result, Ok, Err, IfOk}
use Rattle.book.specs.Standard.{worth_of}
use Rattle.common.specs.Refusals.{number}
use Rattle.common.specs.declared.refusal.Refusal.{Refusal}
use Rattle.file.specs.Faults.{Figures}
use Rattle.file.specs.Loads.{Made}
use Rattle.plan.specs.Planned.{Planned}

abbrev pub refused : ℕ → ℕ
refused n = 0xFFFF_FF00 + n

abbrev pub counted : Result Made Figures → ℕ
counted (Ok m) = length m.tasks
counted (Err fault) = refused fault.cause

abbrev pub answered : Result ℕ Refusal → ℕ
answered (Ok total) = total
answered (Err e) = refused (number e)

pub record Numbered (m : Made) (cells cells' order order' : List ℕ) (answer : ℕ) : Type 0 where
  pub plan : Result ℕ Refusal
  pub planned : Planned (worth_of m.worths) m.tasks cells cells' order order' plan
  pub answers : answer ≡ answered plan
  -- no total is as great as what is answered for a refusal
  pub apart : IfOk plan (λ total. total < refused 0)

abbrev pub Plans : Result Made Figures → (cells cells' order order' : List ℕ) → ℕ → Type 0
Plans (Ok m) cells cells' order order' answer = Numbered m cells cells' order order' answer
Plans (Err fault) cells cells' order order' answer = (answer ≡ refused fault.cause) × (cells' ≡ cells) × (order' ≡ order)
