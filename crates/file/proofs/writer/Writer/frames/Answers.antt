use Rattle.std.proofs.Common.{arith}
use Rattle.file.proofs.Writes.{Wrote-then, text-append}
use Rattle.file.proofs.writer.Writer.frames.Goals as goal

pub returns : goal.returns
returns c =
    let hard = Wrote-then (omega arith) (Wrote-then (omega arith) c.tasks.ensures c.links.ensures) c.hard.ensures in
    let soft = Wrote-then (omega arith) (Wrote-then (omega arith) hard c.ramps.ensures) c.soft.ensures in
    simp text-append (Wrote-then (omega arith) (Wrote-then (omega arith) soft c.steps.ensures) c.weights.ensures)
