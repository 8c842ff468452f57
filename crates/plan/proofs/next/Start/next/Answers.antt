use Rattle.std.proofs.Common.{◌≡◌, ap, ◌∙◌, arith, ◌+◌, min, length, get_or}
use Rattle.std.proofs.lemmas.Bool.{both_ways}
use Rattle.std.proofs.lemmas.Grind.{common_steps}
use Rattle.common.proofs.Sets.{adding-below}
use Rattle.common.specs.Sets.{adding}
use Rattle.plan.proofs.Greatest.{cell-next, next-may-not, next-stuck}
use Rattle.plan.proofs.Following.{value-fits, value-is, with-task}
use Rattle.plan.specs.Cells.{Cell}
use Rattle.plan.specs.Next.{May}
use Rattle.sheet.specs.Sheets.{table}
use Rattle.sheet.specs.Tables.{blank}
use Rattle.plan.proofs.next.Start.next.Given.{Over}
use Rattle.plan.proofs.next.Start.next.Goals.{After-index}
use Rattle.plan.proofs.next.Start.next.Goals as goal

next-set : (g : Over) (c : After-index g) → c.index.result ≡ adding c.args.self.now.set.0 c.args.t
next-set g c = with-task c.args.self.now.sheet.now c.args.self.now.set.0 c.args.t _ c.requires.task (c.index.ensures ∙ c.with.ensures.value)

may : (g : Over) (c : After-index g) → May (table c.args.self.now.sheet.now) c.args.self.now.set.0 c.args.t
may g c = c.allows.ensures.0 c.if-not-allows.false

rest : (g : Over) (c : After-index g) → Cell (g.B.Book.meaning c.args.book.now) (table c.args.self.now.sheet.now) (adding c.args.self.now.set.0 c.args.t) (get_or c.args.cells.now c.index.result 0)
rest g c =
    let m = g.B.Book.meaning c.args.book.now in
    let t = table c.args.self.now.sheet.now in
    let s = c.args.self.now.set.0 in
    rw (next-set g c) (cell-next m t s c.args.t c.args.cells.now c.requires.set (may g c) c.requires.filled)

pub returns-then-not-allows : goal.returns-then-not-allows
returns-then-not-allows g c =
    next-may-not (g.B.Book.meaning c.args.book.now) (table c.args.self.now.sheet.now) c.args.self.now.set.0 c.args.t (λ m. both_ways _ c.if-not-allows.true (c.allows.ensures.1 m))

pub bounds-cells-index : goal.bounds-cells-index
bounds-cells-index g c =
    let d = goal.at.bounds-cells-index g c in
    omega (arith, next-set g d.After-index, adding-below (length (table c.args.self.now.sheet.now)) c.args.self.now.set.0 c.args.t c.requires.set c.requires.task, c.requires.room)

pub returns-then-rest-eq0 : goal.returns-then-rest-eq0
returns-then-rest-eq0 g c =
    let d = goal.at.returns-then-rest-eq0 g c in
    next-stuck (g.B.Book.meaning c.args.book.now) (table c.args.self.now.sheet.now) c.args.self.now.set.0 c.args.t (rw c.if-rest-eq0.true at (rest g d.After-index))

pub overflow_add-result : goal.overflow_add-result
overflow_add-result g c =
    let d = goal.at.overflow_add-result g c in
    omega (arith, value-fits (g.B.Book.meaning c.args.book.now) c.args.self.now.sheet.now c.args.self.now.set.0 c.args.t (g.met.B.Book.sound c.args.book.now) _ _ c.earns.result _ _ (rest g d.After-index) c.earns.ensures)

pub returns : goal.returns
returns g c =
    let d = goal.at.returns g c in
    let is = ap (λ i. get_or c.tasks.result.now i blank) c.from.ensures ∙ ap (λ xs. get_or xs c.args.t blank) c.tasks.ensures in
    value-is (g.B.Book.meaning c.args.book.now) c.args.self.now.sheet.now c.args.self.now.set.0 c.args.t _ _ _ _ _ is (may g d.After-index) (rest g d.After-index) (grind (arith, common_steps)) c.args.self.now.expected
    (c.plus.ensures ∙ ap (λ n. min (c.args.self.now.load.expected.0 + n) 4294967295) c.expected.ensures.value) c.earns.ensures
