use Rattle.std.proofs.Common.{◌≡◌, ap, ◌∙◌, true, ◌<◌, arith, length}
use Rattle.std.proofs.lemmas.Grind.{common_steps}
use Rattle.book.proofs.Efforts.{keenness-is}
use Rattle.book.specs.Keenest.{soft}
use Rattle.sheet.proofs.Rules.{sound-of}
use Rattle.sheet.specs.Sheets.{table}
use Rattle.book.proofs.keenness.keenness.Goals as goal

pub returns : goal.returns
returns g c =
    let s = c.args.sheet.now in
    let x = c.in_ok-ok.ensures in
    let y = c.in_ok-above.ensures in
    let lt : c.args.t < length (table s) = grind (arith, common_steps) in
    let is : soft (table s) c.args.t ≡ true = grind (arith, common_steps) in
    let m = g.B.Book.meaning c.args.book.now in
    keenness-is (table s) (sound-of s) m _ _ _ _ _ lt is (c.worth.ensures ∙ ap (m c.args.t) c.from.ensures) c.loads.ensures.expected (grind (arith, common_steps)) c.new.ensures
