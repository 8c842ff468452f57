use Rattle.plan.proofs.Found.{answering}
use Rattle.sheet.proofs.Rules.{sound-of}
use Rattle.sheet.specs.Sheets.{table}
use Rattle.plan.proofs.laws.tests_answer.Goals as goal

pub returns : goal.returns
returns c = answering (table c.args.sheet.now) (sound-of c.args.sheet.now)
