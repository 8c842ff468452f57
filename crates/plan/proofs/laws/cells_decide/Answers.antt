use Rattle.plan.proofs.Greatest.{continues, lawful-left}
use Rattle.plan.proofs.Orders.{lawful-from, lawful-to}
use Rattle.plan.proofs.laws.cells_decide.Goals as goal

pub returns-clause-empty : goal.returns-clause-empty
returns-clause-empty c t o = (lawful-from t o, lawful-to t o)

pub returns-clause-continues : goal.returns-clause-continues
returns-clause-continues c m t s v = continues m t s v

pub returns-clause-lawful : goal.returns-clause-lawful
returns-clause-lawful c m t v = lawful-left m t v
