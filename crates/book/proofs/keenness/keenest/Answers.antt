use Rattle.book.proofs.Efforts.{keenest-is}
use Rattle.sheet.proofs.Rules.{sound-of}
use Rattle.sheet.specs.Sheets.{table}
use Rattle.book.proofs.keenness.keenest.Goals as goal

pub returns : goal.returns
returns g c =
    keenest-is (g.B.Book.meaning c.args.book.now) (table c.args.sheet.now) _ c.ranks.ensures.each (sound-of c.args.sheet.now) _ c.in_ok-t.ensures
