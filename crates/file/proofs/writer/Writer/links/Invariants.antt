use Rattle.file.specs.Saved.{each, links_from, text_of}
use Rattle.sheet.specs.Sheets.{table}
use Rattle.file.specs.Writing.{Wrote}
use Rattle.file.proofs.writer.Writer.links.Given as goal

-- those from the tasks up to here
abbrev pub invariant-loop-a : goal.invariant-loop-a
invariant-loop-a l = Wrote l.fn.self (text_of (each l.a (links_from (table l.sheet)))) l.self
