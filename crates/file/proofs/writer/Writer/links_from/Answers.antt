use Rattle.std.proofs.Common.{arith}
use Rattle.file.proofs.Writes.{Frames-more, Frames-none}
use Rattle.sheet.specs.Links.{linked}
use Rattle.file.proofs.writer.Writer.links_from.Goals.{then-contains, else-contains}
use Rattle.file.proofs.writer.Writer.links_from.Goals as goal

pub loop-b-preserved : goal.loop-b-preserved
unfolding linked
loop-b-preserved c =
    Frames-more _ _ (omega arith) c.loop-b.invariant
    (rw (← c.tasks-task-items.ensures, ← c.contains.ensures)
    (elim c.if-contains.branch [
      | then-contains w ↦ rw (w.self-is, w.if-contains.true) w.frame.ensures
      | else-contains w ↦ rw (w.self-is, w.if-contains.false) (Frames-none _)
    ]))
