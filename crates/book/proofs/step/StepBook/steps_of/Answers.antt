use Rattle.std.proofs.Common.{◌≡◌, arith}
use Rattle.std.proofs.lemmas.Grind.{common_steps}
use Rattle.book.specs.Lists.{steps_in}
use Rattle.book.specs.Steps.{steps_of}
use Rattle.book.proofs.Steps.{steps_kept}
use Rattle.book.proofs.step.StepBook.steps_of.Goals as goal

pub returns-clause-kept : goal.returns-clause-kept
returns-clause-kept c =
    let e : c.map_or.result.now ≡ steps_of (steps_in c.args.self.now) c.args.t = grind (arith, common_steps) in
    rw e (steps_kept c.args.self.now.steps c.args.t)
