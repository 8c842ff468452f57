use Rattle.std.proofs.Common.{◌≡◌, true, false, arith, ltb, rules, tests}
use Rattle.file.proofs.Writes.{Frames-more, Frames-none}
use Rattle.file.proofs.writer.Writer.weights.Goals.{then-weight-gt-UNSET, else-weight-gt-UNSET}
use Rattle.file.proofs.writer.Writer.weights.Goals as goal

pub loop-t-preserved : goal.loop-t-preserved
loop-t-preserved c =
    let weight = c.weight_of-weight.result in
    Frames-more _ _ (omega arith) c.loop-t.invariant
    (rw (← c.weight_of-weight.ensures.value)
    (elim c.if-weight-gt-UNSET.branch [
      | then-weight-gt-UNSET w ↦ let is : ltb 1 weight ≡ true = search (rules, tests) in rw (w.self-is, is) w.frame.ensures
      | else-weight-gt-UNSET w ↦ let isnt : ltb 1 weight ≡ false = search (rules, tests) in rw (w.self-is, isnt) (Frames-none _)
    ]))

pub returns : goal.returns
returns c = search rules
