use Rattle.file.specs.Saved.{each, hard_frame, text_of}
use Rattle.sheet.specs.Sheets.{table}
use Rattle.file.specs.Writing.{Wrote}
use Rattle.file.proofs.writer.Writer.hard.Given as goal

-- the tasks up to here
abbrev pub invariant-loop-t : goal.invariant-loop-t
invariant-loop-t l = Wrote l.fn.self (text_of (each l.t (hard_frame (table l.sheet)))) l.self
