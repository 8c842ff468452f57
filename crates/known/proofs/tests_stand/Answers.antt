use Rattle.book.specs.StandardLaws.{standard-sound}
use Rattle.file.specs.Loads.{made}
use Rattle.known.proofs.Answering.{deciding as deciding-answers}
use Rattle.known.proofs.Deciding.{standing}
use Rattle.known.proofs.Lines.{deciding as deciding-files}
use Rattle.plan.proofs.Tests.{deciding}
use Rattle.known.proofs.Rows.{deciding as deciding-rows}
use Rattle.sheet.proofs.Rules.{sound-of}
use Rattle.sheet.specs.Sheets.{table}
use Rattle.known.proofs.tests_stand.Goals as goal

pub returns : goal.returns
returns c =
    record {
      sheets = standing (table c.args.sheet.now) (sound-of c.args.sheet.now);
      plans = deciding (table c.args.sheet.now) (sound-of c.args.sheet.now);
      rows = deciding-rows (table c.args.sheet.now) (sound-of c.args.sheet.now);
      files = deciding-files;
      answers = deciding-answers (made c.args.sheet.now c.args.book.now) (sound-of c.args.sheet.now) (standard-sound c.args.book.now);
    }
