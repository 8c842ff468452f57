use Rattle.std.proofs.Common.{arith}
use Rattle.std.proofs.lemmas.Grind.{common_steps}
use Rattle.plan.proofs.Following.{with-task}
use Rattle.plan.proofs.Walks.{best-of, walked-all, walked-more, walked-none, walked-short}
use Rattle.sheet.specs.Sheets.{table}
use Rattle.plan.proofs.walk.walk.Goals as goal

pub loop-i-init : goal.loop-i-init
loop-i-init g c = walked-none (g.B.Book.meaning c.args.book.now) (table c.args.sheet.now) c.args.cells.now c.args.order.now c.requires.alive

pub first-t-requires-clause-set : goal.first-t-requires-clause-set
first-t-requires-clause-set g c =
    walked-short (g.B.Book.meaning c.args.book.now) (table c.args.sheet.now) _ _ _ _ c.loop-i.i c.loop-i.invariant (grind (arith, common_steps))

pub loop-i-preserved : goal.loop-i-preserved
loop-i-preserved g c =
    let m = g.B.Book.meaning c.args.book.now in
    let t = table c.args.sheet.now in
    rw (with-task c.args.sheet.now _ _ _ c.first-t.ensures.task c.with-set.ensures.value) (rw c.from.ensures
    (walked-more m t c.args.cells.now c.args.order.now c.loop-i.order c.loop-i.set.0 c.first-t.result c.loop-i.i c.loop-i.invariant (grind (arith, common_steps)) (omega (arith, c.loop-i.auto.order, c.requires.wide)) c.requires.filled c.first-t.ensures))

pub returns-clause-best : goal.returns-clause-best
returns-clause-best g c =
    let m = g.B.Book.meaning c.args.book.now in
    let t = table c.args.sheet.now in
    best-of m t _ (walked-all m t _ _ _ _ c.loop-i.i c.loop-i.invariant (grind (arith, common_steps)))
