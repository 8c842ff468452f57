use Rattle.std.proofs.Common.{arith}
use Rattle.file.proofs.Writes.{Frames-more, Frames-none}
use Rattle.file.proofs.writer.Writer.ramps.Goals.{in-Some, in_default}
use Rattle.file.proofs.writer.Writer.ramps.Goals as goal

pub loop-t-preserved : goal.loop-t-preserved
loop-t-preserved c =
    Frames-more _ _ (omega arith) c.loop-t.invariant
    (rw (← c.ramp_of.ensures.value)
    (elim c.match-ramp_of.branch [
      | in-Some w ↦ rw (w.self-is, w.in-Some.is) w.frame.ensures
      | in_default w ↦ rw (w.self-is, w.in_default.is) (Frames-none _)
    ]))
