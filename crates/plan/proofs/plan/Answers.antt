use Rattle.std.proofs.Common.{◌≡◌, ◌+◌, Err, get_or, arith, length}
use Rattle.std.proofs.lemmas.Grind.{common_steps}
use Rattle.common.specs.declared.refusal.Refusal.TheVariants.{NoOrder}
use Rattle.plan.proofs.Answering.{planned-none, planned-order, shift-counts}
use Rattle.plan.proofs.Stated.{best-order, total-where}
use Rattle.plan.specs.Planned.{Suffices}
use Rattle.sheet.proofs.Rules.{sound-of}
use Rattle.sheet.proofs.Tables.{few-listed}
use Rattle.sheet.specs.Sheets.{table}
use Rattle.plan.proofs.plan.Given.{Over}
use Rattle.plan.proofs.plan.Goals.{After-fill}
use Rattle.plan.proofs.plan.Goals as goal

room : (g : Over) (c : After-fill g) → Suffices (table c.args.sheet.now) c.args.cells.now c.args.order.now
room g c =
    let t = table c.args.sheet.now in
    let few = few-listed c.args.sheet.now.table in
    let count : c.from-count.result ≡ length t = omega (arith, c.from-count.ensures, c.count.ensures.counts) in
    (omega (arith, shift-counts (length t) c.from-count.result count few, c.if-cells-count.false), omega (arith, count, c.if-order-count.false))

pub returns-in_err-total : goal.returns-in_err-total
returns-in_err-total g c =
    let d = goal.at.returns-in_err-total g c in
    let none : get_or c.fill.new.cells 0 0 ≡ 0 = grind (arith, common_steps) in
    let is : c.from_residual.result ≡ Err NoOrder = grind (arith, common_steps) in
    let p = planned-none (g.B.Book.meaning c.args.book.now) (table c.args.sheet.now) _ _ _ (room g d.After-fill) c.fill.ensures.filled c.fill.ensures.kept none in
    rw is (record { planned = p; best = best-order _ _ _ _ _ _ _ p; total = total-where _ _ _ _ _ _ _ (sound-of c.args.sheet.now) p })

pub returns : goal.returns
returns g c =
    let d = goal.at.returns g c in
    let first : get_or c.fill.new.cells 0 0 ≡ c.in_ok-total.total + 1 = grind (arith, common_steps) in
    let p = planned-order (g.B.Book.meaning c.args.book.now) (table c.args.sheet.now) _ _ _ (room g d.After-fill) c.fill.ensures.filled c.fill.ensures.kept (g.met.B.Book.sound c.args.book.now) _ _ first c.walk.ensures.best c.walk.ensures.kept in
    record { planned = p; best = best-order _ _ _ _ _ _ _ p; total = total-where _ _ _ _ _ _ _ (sound-of c.args.sheet.now) p }
