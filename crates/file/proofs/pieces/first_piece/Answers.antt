use Rattle.std.proofs.Common.{◌≡◌, arith, rules, tests}
use Rattle.std.proofs.lemmas.Grind.{common_steps}
use Rattle.std.proofs.lemmas.Iterator.{YieldsList-from_slice}
use Rattle.std.proofs.lemmas.Iterator.Search.{position_from_yields_List}
use Rattle.file.proofs.Cutting.{ends, first_cut, first_len, first_len_at}
use Rattle.file.proofs.pieces.first_piece.Goals as goal

pub returns-clause-first : goal.returns-clause-first
returns-clause-first c some =
    let xs = c.args.file.now in
    let at = position_from_yields_List ends _ _ c.position.result c.position.ensures.ran (YieldsList-from_slice xs cc) (λ x b q k. search (rules, tests)) in
    let e = first_len_at xs in
    let n : c.map_or-end.result ≡ first_len xs = grind (arith, common_steps, c.map_or-end.ensures) in
    rw (c.split_at.ensures.front, c.split_at.ensures.back, n) (first_cut xs some)
