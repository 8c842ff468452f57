use Rattle.std.proofs.Common.{◌≡◌, true, false, get_or, arith, rules}
use Rattle.file.proofs.Writes.{Frames-more, Frames-none}
use Rattle.sheet.specs.Tables.{blank, is_soft}
use Rattle.file.proofs.writer.Writer.soft.Goals.{then-eq, else-eq}
use Rattle.file.proofs.writer.Writer.soft.Goals as goal

pub loop-t-preserved : goal.loop-t-preserved
loop-t-preserved c =
    let kind = (get_or c.tasks-task-items.result.now c.loop-t.t blank).kind in
    Frames-more _ _ (omega arith) c.loop-t.invariant
    (rw (← c.tasks-task-items.ensures)
    (elim c.if-eq.branch [
      | then-eq w ↦ let is : is_soft kind ≡ true = search rules in rw (w.self-is, is) w.frame.ensures
      | else-eq w ↦ let isnt : is_soft kind ≡ false = search rules in rw (w.self-is, isnt) (Frames-none _)
    ]))
