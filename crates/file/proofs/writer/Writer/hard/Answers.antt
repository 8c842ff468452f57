use Rattle.std.proofs.Common.{arith}
use Rattle.file.proofs.Writes.{Frames-more, Frames-none}
use Rattle.file.proofs.writer.Writer.hard.Goals.{in-Some, in_default}
use Rattle.file.proofs.writer.Writer.hard.Goals as goal

pub loop-t-preserved : goal.loop-t-preserved
loop-t-preserved c =
    Frames-more _ _ (omega arith) c.loop-t.invariant
    (rw (← c.tasks-task-items.ensures, ← c.deadline.ensures)
    (elim c.match-deadline.branch [
      | in-Some w ↦ rw (w.self-is, w.in-Some.is) w.frame.ensures
      | in_default w ↦ rw (w.self-is, w.in_default.is) (Frames-none _)
    ]))
