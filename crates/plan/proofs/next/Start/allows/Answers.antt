use Rattle.std.proofs.Common.{◌≡◌, ap, ◌∙◌, arith, get_or}
use Rattle.std.proofs.lemmas.Grind.{common_steps}
use Rattle.common.specs.Sets.{has}
use Rattle.plan.proofs.Following.{maximum-fits, may-in-time, may-not-ready}
use Rattle.sheet.specs.Sheets.{table}
use Rattle.sheet.specs.Tables.{blank, maximum_of, task_of}
use Rattle.plan.proofs.next.Start.allows.Goals.{After-within}
use Rattle.plan.proofs.next.Start.allows.Goals as goal

is : (c : After-within) → get_or c.tasks.result.now c.from.result blank ≡ task_of (table c.args.self.now.sheet.now) c.args.t
is c = ap (λ i. get_or c.tasks.result.now i blank) c.from.ensures ∙ ap (λ xs. get_or xs c.args.t blank) c.tasks.ensures

pub in_time-requires : goal.in_time-requires
in_time-requires c = omega (arith, maximum-fits c.args.self.now.sheet.now (has c.args.self.now.set.0) c.args.t c.requires.task, ap maximum_of (is (goal.at.in_time-requires c).After-within), c.args.self.now.maximum)

pub returns-then-within : goal.returns-then-within
returns-then-within c =
    may-in-time (table c.args.self.now.sheet.now) c.args.self.now.set.0 c.args.t _ (is (goal.at.returns-then-within c).After-within) c.args.self.now.load.maximum.0 _ c.args.self.now.maximum c.requires.task (grind (arith, common_steps)) (c.within.ensures.0 c.if-within.true) c.in_time.ensures

pub returns-else-within : goal.returns-else-within
returns-else-within c = may-not-ready (table c.args.self.now.sheet.now) c.args.self.now.set.0 c.args.t _ (is (goal.at.returns-else-within c).After-within) _ (grind (arith, common_steps)) c.within.ensures
