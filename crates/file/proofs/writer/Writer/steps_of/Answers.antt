use Rattle.std.proofs.Common.{ap, ◌<◌, arith, length}
use Rattle.std.proofs.lemmas.List.{map_more}
use Rattle.book.specs.Standard.{contents}
use Rattle.book.specs.Steps.{blank, steps_of}
use Rattle.file.proofs.Writes.{Wrote-then, text-append}
use Rattle.file.specs.Saved.{step_frame}
use Rattle.file.proofs.writer.Writer.steps_of.Goals as goal

pub loop-step-preserved : goal.loop-step-preserved
loop-step-preserved c =
    let ss = steps_of (contents c.args.book.now).steps c.args.t in
    let lt : c.loop-step.step-index < length ss = omega (arith, ap length c.steps_of-step-items.ensures.value) in
    rw (map_more (step_frame c.args.t) ss c.loop-step.step-index blank lt, text-append)
    (Wrote-then (omega arith) c.loop-step.invariant (rw c.steps_of-step-items.ensures.value at c.frame.ensures))
