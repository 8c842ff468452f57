use Rattle.std.proofs.Common.{take}
use Rattle.file.specs.Lines.{pairs}
use Rattle.file.specs.Writing.{Wrote}
use Rattle.file.proofs.writer.Writer.line.Given as goal

-- the bytes up to here
abbrev pub invariant-loop-byte : goal.invariant-loop-byte
invariant-loop-byte l = Wrote l.fn.self (pairs (take l.byte-index l.bytes)) l.self
