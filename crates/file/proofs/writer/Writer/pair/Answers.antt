use Rattle.std.proofs.Common.{arith}
use Rattle.file.proofs.Writes.{Wrote-then}
use Rattle.file.proofs.writer.Writer.pair.Goals as goal

pub returns : goal.returns
returns c = rw (← c.digit.ensures, ← c.digit-2.ensures) (Wrote-then (omega arith) c.put.ensures c.put-2.ensures)
