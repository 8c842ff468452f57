use Rattle.std.proofs.Common.{arith}
use Rattle.std.proofs.lemmas.Grind.{common_steps}
use Rattle.sheet.specs.declared.call.Call.TheVariants.{Hard}
use Rattle.sheet.proofs.Kept.{kept}
use Rattle.sheet.proofs.sheet.Sheet.hard.Goals as goal

pub invariant_of-self : goal.invariant_of-self
invariant_of-self c = kept c.args.self.now (Hard c.args.t c.args.deadline) _ (grind (arith, common_steps))
