use Rattle.std.proofs.Common.{map, take}
use Rattle.file.specs.Saved.{step_frame, text_of}
use Rattle.book.specs.Standard.{contents}
use Rattle.book.specs.Steps.{steps_of}
use Rattle.file.specs.Writing.{Wrote}
use Rattle.file.proofs.writer.Writer.steps_of.Given as goal

-- the steps up to here
abbrev pub invariant-loop-step : goal.invariant-loop-step
invariant-loop-step l = Wrote l.fn.self (text_of (map (step_frame l.t) (take l.step-index (steps_of (contents l.book).steps l.t)))) l.self
