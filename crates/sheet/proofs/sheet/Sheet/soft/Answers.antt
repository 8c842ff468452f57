use Rattle.std.proofs.Common.{arith}
use Rattle.std.proofs.lemmas.Grind.{common_steps}
use Rattle.sheet.specs.declared.call.Call.TheVariants.{Soft}
use Rattle.sheet.proofs.Kept.{kept}
use Rattle.sheet.proofs.sheet.Sheet.soft.Goals as goal

pub invariant_of-self : goal.invariant_of-self
invariant_of-self c = kept c.args.self.now (Soft c.args.t) _ (grind (arith, common_steps))
