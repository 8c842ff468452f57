use Rattle.std.proofs.Common.{arith}
use Rattle.std.proofs.lemmas.Grind.{common_steps}
use Rattle.sheet.specs.declared.call.Call.TheVariants.{Link}
use Rattle.sheet.proofs.Kept.{kept}
use Rattle.sheet.proofs.Linking.{linking}
use Rattle.sheet.proofs.sheet.Sheet.link.Goals as goal

pub invariant_of-self : goal.invariant_of-self
invariant_of-self c = kept c.args.self.now (Link c.args.a c.args.b) _ (grind (arith, common_steps))

pub returns-clause-means : goal.returns-clause-means
returns-clause-means c = linking c.args.self.now _ _ _ (grind (arith, common_steps))
