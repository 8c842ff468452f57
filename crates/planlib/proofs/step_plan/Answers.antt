use Rattle.std.proofs.Common.{ℕ, ◌<◌, ◌≤◌, arith, length, List, take, Result, Ok, Err, IfOk}
use Rattle.std.proofs.lemmas.Grind.{common_steps}
use Rattle.answer.proofs.Totals.{earned-small}
use Rattle.book.specs.StandardLaws.{standard-sound}
use Rattle.book.specs.Worths.{Meaning, Sound}
use Rattle.common.specs.declared.refusal.Refusal.{Refusal}
use Rattle.plan.specs.Orders.{expected}
use Rattle.plan.specs.Planned.{Ordered}
use Rattle.planlib.specs.Answers.{refused}
use Rattle.sheet.proofs.Tables.{few-listed}
use Rattle.sheet.specs.Tables.{Table}
use Rattle.planlib.proofs.step_plan.Goals as goal

totals-small : (m : Meaning) (t : Table) → Sound m → length t ≤ 16 → (order order' : List ℕ) (plan : Result ℕ Refusal) → IfOk plan (Ordered m t order order') → IfOk plan (λ total. total < refused 0)
totals-small m t sound few order order' (Ok total) o =
    let small = earned-small m sound t (expected t) 0 (take (length t) order') in
    let totals = o.totals in
    grind (arith, common_steps)
totals-small m t sound few order order' (Err e) o = tt

pub returns-in-Ok : goal.returns-in-Ok
returns-in-Ok c =
    rw c.in-Ok.ensures
    (record {
      plan = c.plan.result;
      planned = c.plan.ensures.planned;
      answers = grind (arith, common_steps);
      apart = totals-small _ _ (standard-sound c.in-Ok.book) (few-listed c.in-Ok.sheet.table) _ _ c.plan.result c.plan.ensures.planned.answer;
    })
