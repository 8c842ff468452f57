use Rattle.std.proofs.Common.{rules}
use Rattle.file.proofs.Writes.{Frames-more}
use Rattle.file.proofs.writer.Writer.links.Goals as goal

pub loop-a-preserved : goal.loop-a-preserved
loop-a-preserved c = search (rules, Frames-more)
