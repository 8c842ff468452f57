use Rattle.std.proofs.Common.{[], arith, eqb, rules, tests}
use Rattle.std.proofs.lemmas.Grind.{common_steps}
use Rattle.std.proofs.lemmas.Iterator.Consumers.{nth_from_yields_List}
use Rattle.std.proofs.lemmas.Iterator.Splits.{YieldsList-from_slice_split}
use Rattle.std.proofs.lemmas.Option.{unwrap_or-slice_get}
use Rattle.std.specs.List.{slice_split}
use Rattle.file.proofs.naming.names_line.Goals as goal

pub returns : goal.returns
returns c =
    let xs = c.args.names.now in
    let s = c.split.ensures in
    let at = nth_from_yields_List c.nth.result _ c.from.result c.nth.ensures.ran (YieldsList-from_slice_split _ (λ b. eqb b 10) xs s.rest s.done s.closure (λ x b q k. search (rules, tests))) in
    let e = unwrap_or-slice_get (slice_split (λ b. eqb b 10) xs) c.args.t [] in
    grind (arith, common_steps)
