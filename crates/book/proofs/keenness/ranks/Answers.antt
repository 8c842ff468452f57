use Rattle.std.proofs.Common.{rules, arith, None}
use Rattle.std.proofs.lemmas.Grind.{common_steps}
use Rattle.common.proofs.Made.{made_same}
use Rattle.book.specs.Keenest.{Keenness}
use Rattle.sheet.specs.Sheets.{table}
use Rattle.book.proofs.keenness.ranks.Goals as goal

pub returns-clause-each : goal.returns-clause-each
returns-clause-each g c =
    let is = Keenness (g.B.Book.meaning c.args.book.now) (table c.args.sheet.now) in
    made_same _ is _ 16 (λ i y f' low call. search rules) _ None c.from_fn.ensures.items (λ k ge. grind (arith, common_steps))
