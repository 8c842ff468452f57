use Rattle.std.proofs.Common.{refl, sym, subst, []}
use Rattle.history.proofs.Following.{results}
use Rattle.history.proofs.Histories.{Rest, ended, onward}
use Rattle.plan.proofs.Stated.{best-order, lengths}
use Rattle.history.specs.Histories.{Passed, resulting}
use Rattle.plan.specs.Planned.{Planned}
use Rattle.history.proofs.replay.Goals as goal

pub loop-call-init : goal.loop-call-init
loop-call-init g c =
    let m = g.B.Book.meaning c.args.book.now in
    let h = c.args.history.now in
    subst (λ t. Rest m (resulting h) (λ cs o. Passed m [] h c.args.cells.now cs c.args.order.now o) t h c.args.cells.now c.args.order.now) (sym c.new-sheet.ensures) (refl, λ cs o passed. passed)

pub loop-call-preserved : goal.loop-call-preserved
loop-call-preserved g c =
    onward (g.B.Book.meaning c.args.book.now) _ _ c.args.history.now c.loop-call.call-index _ c.loop-call-test.true _ _ _ _ _ _ c.loop-call.invariant c.make.ensures.sheet c.make.ensures.leaves

pub returns-clause-best : goal.returns-clause-best
returns-clause-best g c =
    let m = g.B.Book.meaning c.args.book.now in
    let h = c.args.history.now in
    let end = ended m _ _ h c.loop-call.call-index c.loop-call-test.false _ _ _ c.loop-call.invariant in
    lengths m (resulting h) _ c.plan.new.cells _ c.plan.new.order c.plan.result c.args.cells.now c.args.order.now c.loop-call.auto.cells c.loop-call.auto.order
    (best-order m (resulting h) _ c.plan.new.cells _ c.plan.new.order c.plan.result
    (subst (λ t. Planned m t c.loop-call.cells c.plan.new.cells c.loop-call.order c.plan.new.order c.plan.result) end.0 c.plan.ensures.planned))

pub returns-clause-follows : goal.returns-clause-follows
returns-clause-follows g c = (resulting c.args.history.now, results c.args.history.now, returns-clause-best g c)

pub returns-clause-leaves : goal.returns-clause-leaves
returns-clause-leaves g c =
    let m = g.B.Book.meaning c.args.book.now in
    let h = c.args.history.now in
    let end = ended m _ _ h c.loop-call.call-index c.loop-call-test.false _ _ _ c.loop-call.invariant in
    record {
      c = c.loop-call.cells;
      o = c.loop-call.order;
      calls = end.1;
      plan = subst (λ t. Planned m t c.loop-call.cells c.plan.new.cells c.loop-call.order c.plan.new.order c.plan.result) end.0 c.plan.ensures.planned;
    }
