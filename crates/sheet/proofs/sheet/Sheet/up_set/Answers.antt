use Rattle.sheet.proofs.Ancestors.{up-by-links}
use Rattle.sheet.specs.Sheets.{table}
use Rattle.sheet.proofs.sheet.Sheet.up_set.Goals as goal

pub returns-clause-descends : goal.returns-clause-descends
returns-clause-descends c u = up-by-links (table c.args.self.now) c.args.self.now.keeps.known u c.args.t

pub returns-in_err-get-clause-descends : goal.returns-in_err-get-clause-descends
returns-in_err-get-clause-descends c u = up-by-links (table c.args.self.now) c.args.self.now.keeps.known u c.args.t
