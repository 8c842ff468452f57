use Rattle.std.proofs.Common.{◌≡◌, ℕ, List, Result, refl, sym, subst, subst₂, ◌∙◌, ap₂, [], ◌++◌, ◌-◌, append-nil, arith, length, take, Ok}
use Rattle.std.proofs.lemmas.Grind.{common_steps}
use Rattle.book.specs.Worths.{Meaning}
use Rattle.common.specs.declared.refusal.Refusal.{Refusal}
use Rattle.plan.specs.Orders.{Lawful}
use Rattle.plan.specs.Planned.{Ordered, Planned}
use Rattle.plan.specs.Totals.{total}
use Rattle.row.proofs.Firsts.{first-whole}
use Rattle.row.specs.Laid.{laid, order_of}
use Rattle.row.specs.Rows.{First, Leads}
use Rattle.sheet.specs.Sheets.{table}
use Rattle.sheet.specs.Tables.{Table}
use Rattle.sheet.specs.declared.sheet.Sheet.{Sheet}
use Rattle.sample.proofs.hand.by_hand.Given.{Over}
use Rattle.sample.proofs.hand.by_hand.Goals as goal
use Rattle.sample.proofs.hand.by_hand.Goals.{After-branch-lay}

module _ (m : Meaning) (t : Table) (cells cells' order order' : List ℕ) (r : Result ℕ Refusal) (v : ℕ) (p : Planned m t cells cells' order order' r) (is : r ≡ Ok v) where
  answered : Planned m t cells cells' order order' (Ok v)
  answered = subst (Planned m t cells cells' order order') is p

  -- the order where plan answered a total
  ordered : Ordered m t order order' v
  ordered = answered.answer

  weighed : (w : ℕ) → v ≡ w → Planned m t cells cells' order order' (Ok w)
  weighed w e = subst (λ v. Planned m t cells cells' order order' (Ok v)) e answered

module _ (g : Over) (c : After-branch-lay g) where
  sheet : c.begin-begun.result.0.sheet ≡ c.args.sheet.now
  sheet = (c.begin-begun.ensures.begun (rw c.in_ok-begun.was refl)).0

  all : c.from.result - 0 ≡ length (table c.args.sheet.now)
  all = omega (arith, c.from.ensures, c.count.ensures.counts)

  best : Ordered (g.B.Book.meaning c.args.book.now) (table c.args.sheet.now) c.args.order.now c.plan.new.order c.in_ok-plan.field-0
  best = ordered _ _ _ _ _ _ _ _ c.plan.ensures.planned c.in_ok-plan.was

  -- plan's order is lawful on the row's sheet, and the row begins empty
  leads : Leads (table c.begin-begun.result.0.sheet) (laid c.begin-begun.result.0 ++ take (c.from.result - 0) c.plan.new.order)
  leads = rw (sheet, c.begin-begun.ensures.empty, all) ([], subst (Lawful (table c.args.sheet.now)) (sym (append-nil _)) best.best.lawful)

pub returns-in_err-lay : goal.returns-in_err-lay
returns-in_err-lay g c =
    let none = c.in_err-lay.ensures.all.1 (leads g (goal.at.returns-in_err-lay g c).After-branch-lay) in absurd (grind (arith, common_steps))

-- the row that is finished is plan's order
pub returns : goal.returns
returns g c =
    let d = (goal.at.returns g c).After-branch-lay in
    let m = g.B.Book.meaning c.args.book.now in
    let t = table c.args.sheet.now in
    let row : laid c.lay.new.row ≡ take (length t) c.plan.new.order = rw (c.in_ok-lay.ensures.lays refl, c.begin-begun.ensures.empty, all g d) refl in
    let same : c.lay.new.row.sheet ≡ c.args.sheet.now = c.lay.ensures.sheet ∙ sheet g d in
    let first = subst₂ (λ (s : Sheet) row. First (table s) row (order_of c.finish.result)) same row c.finish.ensures.first in
    let is = first-whole t (take (length t) c.plan.new.order) (order_of c.finish.result) (best g d).best.lawful first in
    let weighs = c.weigh.ensures.total ∙ ap₂ (λ (s : Sheet) o. total m (table s) o) (c.finish.ensures.sheet ∙ same) is in
    weighed _ _ _ _ _ _ _ _ c.plan.ensures.planned c.in_ok-plan.was _ ((best g d).totals ∙ sym weighs)
