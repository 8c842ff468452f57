use Rattle.std.proofs.Common.{◌≡◌, ap, arith, length, get_or}
use Rattle.std.proofs.lemmas.Grind.{common_steps}
use Rattle.plan.proofs.Walks.{worse-all, worse-more}
use Rattle.plan.specs.Cells.{Cell}
use Rattle.sheet.specs.Sheets.{table}
use Rattle.plan.proofs.walk.first.Given.{Over}
use Rattle.plan.proofs.walk.first.Goals.{After-index}
use Rattle.plan.proofs.walk.first.Goals as goal

here : (g : Over) (c : After-index g) → Cell (g.B.Book.meaning c.args.book.now) (table c.after-start.result.sheet.now) c.after-start.result.set.0 (get_or c.args.cells.now c.index.result 0)
here g c =
    rw (c.after-start.ensures.sheet, ap (λ x. x.0) c.after-start.ensures.set) (rw (c.index.ensures) (c.requires.filled c.args.set.0 (omega (arith, c.requires.set))))

pub loop-t-preserved : goal.loop-t-preserved
loop-t-preserved g c =
    let d = goal.at.loop-t-preserved g c in
    worse-more (g.B.Book.meaning c.args.book.now) (table c.after-start.result.sheet.now) c.after-start.result.set.0 c.loop-t.t _ _ (here g d.After-index) c.next.ensures (grind (arith, common_steps)) c.loop-t.invariant

pub unreachable-requires : goal.unreachable-requires
unreachable-requires g c =
    let d = goal.at.unreachable-requires g c in
    let m = g.B.Book.meaning c.args.book.now in
    let t = table c.after-start.result.sheet.now in
    let s = c.after-start.result.set.0 in
    let all : c.loop-t.t ≡ length t = omega (arith, c.loop-t-test.false, c.loop-t.auto.t-end, c.count-t-end.ensures, ap (λ x. length (table x)) c.after-start.ensures.sheet) in
    worse-all m t s (get_or c.args.cells.now c.index.result 0) (rw (c.after-start.ensures.sheet, ap (λ x. x.0) c.after-start.ensures.set) c.requires.set) (rw (c.index.ensures) c.requires.alive) (here g d.After-index) (rw all at c.loop-t.invariant)
