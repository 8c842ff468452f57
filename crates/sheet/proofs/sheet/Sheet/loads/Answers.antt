use Rattle.std.proofs.Common.{rules, arith}
use Rattle.std.proofs.lemmas.Grind.{common_steps}
use Rattle.sheet.proofs.Loads.{left-less, left-none}
use Rattle.sheet.specs.Tables.{maximum_of}
use Rattle.sheet.proofs.sheet.Sheet.loads.Goals as goal

pub loop-t-preserved : goal.loop-t-preserved
unfolding maximum_of
loop-t-preserved c =
    let out = c.without-left.ensures in (
      left-less _ _ _ _ _ c.loop-t.invariant.0 (search rules) c.in-Some.t (search rules) (search rules) _ (search rules) (search rules) _ c.plus-expected.ensures _ out.value,
      left-less _ _ _ _ _ c.loop-t.invariant.1 (search rules) c.in-Some.t (search rules) (search rules) _ (search rules) (search rules) _ c.plus-maximum.ensures _ out.value,
    )

pub returns-in_default-get-clause-expected : goal.returns-in_default-get-clause-expected
returns-in_default-get-clause-expected c = left-none _ _ _ _ _ c.loop-t.invariant.0 (λ k lt. grind (arith, common_steps))

pub returns-in_default-get-clause-maximum : goal.returns-in_default-get-clause-maximum
returns-in_default-get-clause-maximum c = left-none _ _ _ _ _ c.loop-t.invariant.1 (λ k lt. grind (arith, common_steps))

pub returns-in_default-clause-expected : goal.returns-in_default-clause-expected
returns-in_default-clause-expected c = left-none _ _ _ _ _ c.loop-t.invariant.0 (λ k lt. c.in_default.ensures k)

pub returns-in_default-clause-maximum : goal.returns-in_default-clause-maximum
returns-in_default-clause-maximum c = left-none _ _ _ _ _ c.loop-t.invariant.1 (λ k lt. c.in_default.ensures k)
