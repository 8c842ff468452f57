use Rattle.std.proofs.Common.{◌≡◌, refl, [], ◌∷◌, true, lit≤}
use Rattle.std.specs.Prelude.{fold}
use Rattle.common.specs.Sets.{has}
use Rattle.plan.proofs.Found.{found-of}
use Rattle.plan.specs.Tests.{none_lawful}
use Rattle.sheet.specs.Calls.{after}
use Rattle.sheet.specs.Links.{linked, reaches, up, via}
use Rattle.sheet.specs.Tables.{Table, expected_of, maximum_of}
use Rattle.sheet.specs.declared.call.Call.TheVariants.{Task, Link, Hard}
use Rattle.sample.proofs.constant.none_of_two.Goals as goal

-- the tasks that the calls make
abbrev tasks : Table
tasks = fold after [] (Task 5 5 ∷ Task 2 2 ∷ Link 1 0 ∷ Hard 0 6 ∷ [])

-- of them the test computes
none : none_lawful tasks ≡ true
unfolding has linked via reaches up expected_of maximum_of
none = refl

-- where calls make links, how many tasks there are is computed by these words too
pub returns : goal.returns
unfolding has linked via reaches up
returns c = (found-of _ _ _ tasks _ _ _ _ _ c.tests_answer.ensures c.plan-total.ensures.planned c.made-sheet.ensures refl (lit≤ tt, lit≤ tt)).none.0 none
