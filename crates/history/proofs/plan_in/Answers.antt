use Rattle.history.proofs.Fronts.{left}
use Rattle.sheet.specs.Sheets.{table}
use Rattle.history.proofs.plan_in.Goals as goal

pub returns : goal.returns
returns g c =
    left (g.B.Book.meaning c.args.book.now) (table c.args.sheet.now) _ _ c.min-many.result c.min-bytes.result _ _ c.plan.new.cells c.plan.new.order c.plan.result
    c.min-many.ensures c.min-bytes.ensures c.plan.auto.cells c.plan.auto.order c.plan.ensures.planned
