use Rattle.plan.proofs.Tests.{deciding}
use Rattle.sheet.proofs.Rules.{sound-of}
use Rattle.sheet.specs.Sheets.{table}
use Rattle.plan.proofs.laws.tests_stand.Goals as goal

pub returns : goal.returns
returns c = deciding (table c.args.sheet.now) (sound-of c.args.sheet.now)
