use Rattle.std.proofs.Common.{arith}
use Rattle.std.proofs.lemmas.Grind.{common_steps}
use Rattle.sheet.specs.declared.call.Call.TheVariants.{Plain}
use Rattle.sheet.proofs.Kept.{kept}
use Rattle.sheet.proofs.sheet.Sheet.plain.Goals as goal

pub invariant_of-self : goal.invariant_of-self
invariant_of-self c = kept c.args.self.now (Plain c.args.t) _ (grind (arith, common_steps))
