use Rattle.file.specs.Saved.{each, step_frames, text_of}
use Rattle.book.specs.Standard.{contents}
use Rattle.file.specs.Writing.{Wrote}
use Rattle.file.proofs.writer.Writer.steps.Given as goal

-- the tasks up to here
abbrev pub invariant-loop-t : goal.invariant-loop-t
invariant-loop-t l = Wrote l.fn.self (text_of (each l.t (step_frames (contents l.book)))) l.self
