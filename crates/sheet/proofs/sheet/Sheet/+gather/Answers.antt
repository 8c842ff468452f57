use Rattle.std.proofs.Common.{arith}
use Rattle.std.proofs.lemmas.Grind.{common_steps}
use Rattle.sheet.proofs.Ancestors.{up-by-links}
use Rattle.sheet.specs.Sheets.{table}
use Rattle.sheet.proofs.sheet.Sheet.+gather.Goals as goal

pub returns : goal.returns
returns t c u = grind (arith, common_steps, up-by-links (table c.args.self.now) c.args.self.now.keeps.known u c.args.t)
