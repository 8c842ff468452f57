use Rattle.file.specs.Saved.{each, ramp_frame, text_of}
use Rattle.book.specs.Standard.{contents}
use Rattle.file.specs.Writing.{Wrote}
use Rattle.file.proofs.writer.Writer.ramps.Given as goal

-- the tasks up to here
abbrev pub invariant-loop-t : goal.invariant-loop-t
invariant-loop-t l = Wrote l.fn.self (text_of (each l.t (ramp_frame (contents l.book)))) l.self
