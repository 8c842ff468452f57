use Rattle.plan.proofs.Fitting.{fits-after, fits-tells}
use Rattle.sheet.proofs.Rules.{sound-of}
use Rattle.sheet.specs.Sheets.{table}
use Rattle.plan.proofs.laws.margins_decide.Goals as goal

pub returns-clause-fits : goal.returns-clause-fits
returns-clause-fits c = fits-tells (table c.args.sheet.now) (sound-of c.args.sheet.now)

pub returns-clause-after : goal.returns-clause-after
returns-clause-after c s closed = fits-after (table c.args.sheet.now) (sound-of c.args.sheet.now) s closed
