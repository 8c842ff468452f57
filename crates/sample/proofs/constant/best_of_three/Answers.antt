use Rattle.std.proofs.Common.{◌≡◌, refl, sym, ap, ◌∙◌, [], ◌∷◌, true, arith, take_all, lit≤}
use Rattle.std.specs.Prelude.{fold}
use Rattle.book.specs.Ramps.{slope}
use Rattle.book.specs.Standard.{Contents, contents, nothing, worth_of}
use Rattle.book.specs.Standard as book
use Rattle.book.specs.declared.call.Call.TheVariants.{Ramp}
use Rattle.common.specs.Sets.{has}
use Rattle.plan.proofs.Found.{found-of}
use Rattle.plan.specs.Tests.{Found, is_best}
use Rattle.sheet.specs.Calls.{after}
use Rattle.sheet.specs.Links.{linked}
use Rattle.sheet.specs.Tables.{Table, expected_of, maximum_of}
use Rattle.sheet.specs.declared.call.Call.TheVariants.{Task, Hard, Soft}
use Rattle.sample.proofs.constant.best_of_three.Goals as goal
use Rattle.sample.proofs.constant.best_of_three.Goals.{After-tests_answer}

-- the tasks and the curves that the calls make
abbrev tasks : Table
tasks = fold after [] (Task 1 1 ∷ Task 5 5 ∷ Task 2 2 ∷ Hard 1 6 ∷ Soft 2 ∷ [])

abbrev curves : Contents
curves = book.after nothing (Ramp 2 12 7 10)

-- of them the test computes
best : is_best (worth_of curves) tasks (1 ∷ 2 ∷ 0 ∷ []) 12 ≡ true
unfolding has linked expected_of maximum_of slope
best = refl

module _ (c : After-tests_answer) where
  curved : contents c.ramp.new.self ≡ curves
  curved = cc

  found : Found (worth_of curves) tasks c.plan-total.new.cells c.plan-total.new.order c.plan-total.result
  found = found-of _ _ _ tasks _ _ _ _ _ c.tests_answer.ensures c.plan-total.ensures.planned c.made-sheet.ensures (ap worth_of curved) (lit≤ tt, lit≤ tt)

pub returns-clause-total : goal.returns-clause-total
returns-clause-total c = (((found c).best (1 ∷ 2 ∷ 0 ∷ []) 12).0 best).0

-- the buffer is as long as the order
pub returns-clause-order : goal.returns-clause-order
returns-clause-order c = sym (take_all 3 c.plan-total.new.order (omega arith)) ∙ (((found c).best (1 ∷ 2 ∷ 0 ∷ []) 12).0 best).1
