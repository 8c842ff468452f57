use Rattle.std.proofs.Common.{arith}
use Rattle.std.proofs.lemmas.Grind.{common_steps}
use Rattle.book.proofs.Steps.{steps-at, stepped-means, stepped-within, written}
use Rattle.book.proofs.step.StepBook.step.Goals as goal

pub returns-clause-answers : goal.returns-clause-answers
returns-clause-answers c =
    let x = c.args.self.now in
    let at = steps-at x _ _ c.in_ok-k.ensures c.index-self-k.result in
    let e = written x _ _ c.in_ok-k.ensures c.push.new.self _ c.push.ensures in
    grind (arith, common_steps)

pub returns-clause-means : goal.returns-clause-means
returns-clause-means c = stepped-means c.args.self.now _ _ _ _ (returns-clause-answers c)

pub returns-clause-within : goal.returns-clause-within
returns-clause-within c = stepped-within c.args.self.now _ _ _ _ (returns-clause-answers c)
