use Rattle.plan.proofs.Walks.{best-one}
use Rattle.plan.proofs.laws.best_is_unique.Goals as goal

pub returns : goal.returns
returns c m t o p = best-one m t o p
