use Rattle.file.specs.Saved.{each, link_frame, text_of}
use Rattle.sheet.specs.Sheets.{table}
use Rattle.file.specs.Writing.{Wrote}
use Rattle.file.proofs.writer.Writer.links_from.Given as goal

-- those to the tasks up to here
abbrev pub invariant-loop-b : goal.invariant-loop-b
invariant-loop-b l = Wrote l.fn.self (text_of (each l.b (link_frame (table l.sheet) l.a))) l.self
