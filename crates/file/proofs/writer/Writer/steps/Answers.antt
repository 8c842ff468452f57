use Rattle.std.proofs.Common.{rules}
use Rattle.file.proofs.Writes.{Frames-more}
use Rattle.file.proofs.writer.Writer.steps.Goals as goal

pub loop-t-preserved : goal.loop-t-preserved
loop-t-preserved c = search (rules, Frames-more)
