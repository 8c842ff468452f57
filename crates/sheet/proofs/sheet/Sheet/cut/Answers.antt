use Rattle.std.proofs.Common.{arith}
use Rattle.std.proofs.lemmas.Grind.{common_steps}
use Rattle.sheet.specs.Links.{linked}
use Rattle.sheet.specs.declared.call.Call.TheVariants.{Cut}
use Rattle.sheet.proofs.Kept.{kept}
use Rattle.sheet.proofs.Linking.{cutting}
use Rattle.sheet.proofs.sheet.Sheet.cut.Goals as goal

pub invariant_of-self : goal.invariant_of-self
unfolding linked
invariant_of-self c = kept c.args.self.now (Cut c.args.a c.args.b) _ (grind (arith, common_steps))

pub returns-clause-means : goal.returns-clause-means
unfolding linked
returns-clause-means c = cutting c.args.self.now _ _ _ (grind (arith, common_steps))
