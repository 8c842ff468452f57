-- What is written of a table's places, as its list shows it, and the places that a list gives back. Assumes nothing.
use Rattle.std.proofs.Common.{◌≡◌, sym, ap, ◌∙◌, List, ◌++◌, ℕ, suc, ◌+◌, ◌-◌, ◌≤◌, ◌<◌, arith, length, set, take, drop, replicate}
use Rattle.std.proofs.Math.Seq.{take-set-lt}
use Rattle.std.proofs.lemmas.Grind.{common_steps}
use Rattle.std.proofs.lemmas.List.{drop-drop, drop-replicate, drop-set-lt, length-take, length-take-le, take-append-drop}
use Rattle.sheet.specs.Tables.{blank}
use Rattle.sheet.specs.declared.table.Table.{Table}
use Rattle.sheet.specs.declared.table.Task.{Task}

-- behind one task more the places stay blank
pub clear_pushed : (n i : ℕ) (xs : List Task) (x : Task) → i ≡ n → n < length xs → drop n xs ≡ replicate (16 - n) blank → drop (n + 1) (set xs i x) ≡ replicate (16 - (n + 1)) blank
clear_pushed n i xs x at lt rest =
    drop-set-lt (n + 1) xs i x (omega arith) ∙ sym (drop-drop 1 n xs) ∙ ap (drop 1) rest ∙ drop-replicate 1 (16 - n) blank ∙ ap (λ m. replicate m blank) (omega arith)

-- what finds that a task more, or another in the place of one, keeps the places
pub ruleset placing = (common_steps, take-set-lt, drop-set-lt, clear_pushed)

-- the list gives the places back
module _ (p : Table) where
  pub len-back : length (take p.len p.tasks) ≡ p.len
  len-back = length-take-le p.len p.tasks (omega (arith, p.whole, p.few))

  pub tasks-back : take p.len p.tasks ++ replicate (16 - p.len) blank ≡ p.tasks
  tasks-back = ap (λ ys. take p.len p.tasks ++ ys) (sym p.clear) ∙ take-append-drop p.len p.tasks

  pub few-listed : length (take p.len p.tasks) ≤ 16
  few-listed = omega (arith, len-back, p.few)
