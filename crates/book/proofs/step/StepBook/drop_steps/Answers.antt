use Rattle.std.proofs.Common.{arith}
use Rattle.std.proofs.lemmas.Grind.{common_steps}
use Rattle.book.proofs.Steps.{dropped-means, written}
use Rattle.book.proofs.step.StepBook.drop_steps.Goals as goal

pub returns-clause-answers : goal.returns-clause-answers
returns-clause-answers c =
    let e = written c.args.self.now _ _ c.in_ok-k.ensures c.new.result _ c.new.ensures in
    grind (arith, common_steps)

pub returns-clause-means : goal.returns-clause-means
returns-clause-means c = dropped-means c.args.self.now _ _ (returns-clause-answers c)
