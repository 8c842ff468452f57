use Rattle.std.proofs.Common.{◌≡◌, refl, ap, sym, subst, ◌∙◌, ℕ, ◌-◌, pos, ◌≤ℤ◌, arith}
use Rattle.std.proofs.lemmas.Int.{ints}
use Rattle.sample.proofs.Earlier.{left-after, spending}
use Rattle.sheet.specs.Calls.{after}
use Rattle.sheet.specs.Margins.{Fits}
use Rattle.sheet.specs.Sheets.{table}
use Rattle.sheet.specs.Tables.{task_of}
use Rattle.sheet.specs.declared.call.Call.TheVariants.{Hard as hard}
use Rattle.sheet.specs.declared.table.Kind.{Kind}
use Rattle.sheet.specs.declared.table.Kind.TheVariants.{Hard}
use Rattle.sheet.specs.declared.table.Task.{Task}
use Rattle.sample.proofs.slack.sooner.Goals as goal

-- the deadline as it was, what is left of it, and what the call leaves
pub returns-clause-fits : goal.returns-clause-fits
returns-clause-fits c fits =
    let t = table c.args.sheet.now in
    let task = c.in_ok-deadline.ensures in
    let is : (task_of t c.args.t).kind ≡ Hard c.in-Hard.deadline = subst (λ (x : Task). x.kind ≡ Hard c.in-Hard.deadline) task.1 c.in-Hard.is in
    let enough : pos c.args.by ≤ℤ c.in-Some.left.0 = grind (arith, ints, c.if-left-from.false, c.from.ensures) in
    let is-after = left-after t (table c.hard.new.self) (hard c.args.t c.saturating_sub.result) _ c.hard.ensures.called in
    let there = spending t c.args.t task.0 c.in-Hard.deadline is c.in-Some.left (sym c.in_ok-left.ensures.gives.1 ∙ c.in-Some.is) c.args.by enough fits in
    subst Fits (sym is-after) (subst (λ d. Fits (after t (hard c.args.t d))) (sym c.saturating_sub.ensures) there)

pub returns-clause-moves : goal.returns-clause-moves
returns-clause-moves c moved =
    let t = table c.args.sheet.now in
    let is : (task_of t c.args.t).kind ≡ Hard c.in-Hard.deadline = subst (λ (x : Task). x.kind ≡ Hard c.in-Hard.deadline) c.in_ok-deadline.ensures.1 c.in-Hard.is in
    let is-after = left-after t (table c.hard.new.self) (hard c.args.t c.saturating_sub.result) _ c.hard.ensures.called in
    (c.in-Hard.deadline, is, is-after ∙ ap (λ d. after t (hard c.args.t d)) c.saturating_sub.ensures)

pub returns-clause-when : goal.returns-clause-when
returns-clause-when c =
    let enough : pos c.args.by ≤ℤ c.in-Some.left.0 = grind (arith, ints, c.if-left-from.false, c.from.ensures) in
    (λ moved. (c.in-Some.left, sym c.in_ok-left.ensures.gives.1 ∙ c.in-Some.is, enough), λ z. refl)
