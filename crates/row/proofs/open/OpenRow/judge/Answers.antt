use Rattle.std.proofs.Common.{◌≡◌, sym, ◌∙◌, ◌<◌, arith, length}
use Rattle.std.proofs.lemmas.Bool.{both_ways}
use Rattle.std.proofs.lemmas.Grind.{common_steps}
use Rattle.common.specs.Refusals.{outcome}
use Rattle.row.proofs.Held.{held-accepted, held-no-order, held-not-ready, held-placed, held-unknown}
use Rattle.sheet.specs.Sheets.{table}
use Rattle.sheet.specs.Tables.{task_of}
use Rattle.row.proofs.open.OpenRow.judge.Goals.{After-contains}
use Rattle.row.proofs.open.OpenRow.judge.Goals as goal

lt : (c : After-contains) → c.args.t < length (table c.args.self.now.sheet)
lt c = grind (arith, common_steps)

is : (c : After-contains) → c.in_ok-task.task ≡ task_of (table c.args.self.now.sheet) c.args.t
is c = grind (arith, common_steps)

pub returns-in_err-task : goal.returns-in_err-task
returns-in_err-task c =
    let n : outcome c.from_residual.result ≡ 1 = grind (arith, common_steps) in
    rw n (held-unknown c.args.self.now c.args.t (grind (arith, common_steps)))

pub returns-then-contains : goal.returns-then-contains
returns-then-contains c =
    let d = goal.at.returns-then-contains c in held-placed c.args.self.now c.args.t (lt d.After-contains) (sym c.contains.ensures ∙ c.if-contains.true)

pub returns-then-not-within : goal.returns-then-not-within
returns-then-not-within c =
    let d = (goal.at.returns-then-not-within c).After-contains in
    held-not-ready c.args.self.now c.args.t (lt d) _ (is d) (sym c.contains.ensures ∙ c.if-contains.false) (λ b. both_ways _ c.if-not-within.true (c.within.ensures.1 b))

pub returns-then-not-fits_after : goal.returns-then-not-fits_after
returns-then-not-fits_after c =
    let d = (goal.at.returns-then-not-fits_after c).After-contains in
    held-no-order c.args.self.now c.args.t (lt d) _ (is d) (sym c.contains.ensures ∙ c.if-contains.false) (c.within.ensures.0 c.if-not-within.false) _ c.with.ensures.value
    (λ f. both_ways _ c.if-not-fits_after.true (c.fits_after.ensures.fits.1 f))

pub returns : goal.returns
returns c =
    let d = (goal.at.returns c).After-contains in
    held-accepted c.args.self.now c.args.t (lt d) _ (is d) (sym c.contains.ensures ∙ c.if-contains.false) (c.within.ensures.0 c.if-not-within.false) _ c.with.ensures.value
    (c.fits_after.ensures.fits.0 c.if-not-fits_after.false)
