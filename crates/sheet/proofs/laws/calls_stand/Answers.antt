use Rattle.sheet.proofs.Effects.{does}
use Rattle.sheet.proofs.Rules.{sound-of}
use Rattle.sheet.specs.Sheets.{table}
use Rattle.sheet.proofs.laws.calls_stand.Goals as goal

pub returns : goal.returns
returns c call n t = does (table c.args.sheet.now) (sound-of c.args.sheet.now) call n t
