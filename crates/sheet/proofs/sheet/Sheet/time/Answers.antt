use Rattle.std.proofs.Common.{arith}
use Rattle.std.proofs.lemmas.Grind.{common_steps}
use Rattle.sheet.specs.declared.call.Call.TheVariants.{Time}
use Rattle.sheet.proofs.Kept.{kept}
use Rattle.sheet.proofs.sheet.Sheet.time.Goals as goal

pub invariant_of-self : goal.invariant_of-self
invariant_of-self c = kept c.args.self.now (Time c.args.t c.in_ok-min.min c.in_ok-min.max) _ (grind (arith, common_steps))
