use Rattle.std.proofs.Common.{◌≡◌, refl, sym, subst, subst₂, ◌≤◌, [], ◌∷◌, ◌++◌, ◌∙◌, ap, List, ℕ, ◌+◌, ◌<◌, take, take_all, drop, length, get_or, arith}
use Rattle.std.proofs.lemmas.Grind.{common_steps}
use Rattle.std.proofs.lemmas.List.{append_assoc, take-append-drop, take_more}
use Rattle.row.proofs.Held.{leads-on}
use Rattle.row.proofs.Laying.{front}
use Rattle.row.specs.Laid.{laid}
use Rattle.row.specs.Rows.{Leads}
use Rattle.sheet.specs.Sheets.{table}
use Rattle.sheet.specs.Tables.{Table}
use Rattle.sheet.specs.declared.sheet.Sheet.{Sheet}
use Rattle.sample.proofs.hand.lay.Goals as goal

-- where the row leads on with all tasks, it does with those up to here and the task here
module _ (t : Table) (row tasks : List ℕ) (i : ℕ) (lt : i < length tasks) (leads : Leads t (row ++ tasks)) where
  parts : row ++ tasks ≡ (row ++ take (i + 1) tasks) ++ drop (i + 1) tasks
  parts = ap (λ o. row ++ o) (sym (take-append-drop (i + 1) tasks)) ∙ sym (append_assoc row (take (i + 1) tasks) (drop (i + 1) tasks))

  more : Leads t ((row ++ take i tasks) ++ get_or tasks i 0 ∷ [])
  more =
      subst (Leads t) (ap (λ o. row ++ o) (take_more tasks i 0 lt) ∙ sym (append_assoc row (take i tasks) (get_or tasks i 0 ∷ [])))
      (front t (row ++ take (i + 1) tasks) (drop (i + 1) tasks) (subst (Leads t) parts leads))

pub returns-in_err-place-clause-all : goal.returns-in_err-place-clause-all
returns-in_err-place-clause-all c =
    let t = table c.args.row.now.sheet in
    let lt : c.loop-t.t-index < length c.args.tasks.now = omega (arith, c.loop-t-test.true, c.loop-t.auto.t-index-end) in
    let inv = c.loop-t.invariant in
    let says = c.in_err-place.ensures.says in (
      λ z. absurd (grind (arith, common_steps)),
      λ x.
          let next : Leads (table c.loop-t.row.sheet) (laid c.loop-t.row ++ get_or c.args.tasks.now c.loop-t.t-index 0 ∷ []) = rw (inv.sheet, inv.lays) (more t (laid c.args.row.now) c.args.tasks.now c.loop-t.t-index lt x) in
          let z = says.accepted.1 next in
          absurd (grind (arith, common_steps)),
    )

pub returns-clause-all : goal.returns-clause-all
returns-clause-all c =
    let inv = c.loop-t.invariant in
    let n : length c.args.tasks.now ≤ c.loop-t.t-index = omega (arith, c.loop-t-test.false) in
    let is : laid c.loop-t.row ≡ laid c.args.row.now ++ c.args.tasks.now = inv.lays ∙ ap (λ o. laid c.args.row.now ++ o) (take_all c.loop-t.t-index c.args.tasks.now n) in
    (λ z. subst₂ (λ (s : Sheet) o. Leads (table s) o) inv.sheet is (leads-on c.loop-t.row), λ x. refl)
