use Rattle.std.proofs.Common.{arith}
use Rattle.file.proofs.Writes.{Frames-more}
use Rattle.file.proofs.writer.Writer.tasks.Goals as goal

pub loop-task-preserved : goal.loop-task-preserved
loop-task-preserved c = Frames-more _ _ (omega arith) c.loop-task.invariant (rw (← c.tasks-task-items.ensures) c.frame.ensures)
