use Rattle.std.proofs.Common.{◌≡◌, ◌∙◌, None, arith, sym}
use Rattle.std.proofs.lemmas.Grind.{common_steps}
use Rattle.sheet.proofs.Margins.{tightest-is}
use Rattle.sheet.proofs.sheet.Sheet.tightest.Goals as goal

pub returns-in_err-t : goal.returns-in_err-t
returns-in_err-t c =
    let is : c.from_residual.result ≡ None = grind (arith, common_steps) in
    let absent : c.first_present.result ≡ None = grind (arith, common_steps) in
    rw is (λ k. sym (c.margins.ensures.each k) ∙ rw absent at c.first_present.ensures k)

pub returns : goal.returns
returns c = tightest-is _ _ c.margins.ensures.each _ c.in_ok-t.ensures
