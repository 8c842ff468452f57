use Rattle.file.specs.Saved.{each, task_frame, text_of}
use Rattle.sheet.specs.Sheets.{table}
use Rattle.file.specs.Writing.{Wrote}
use Rattle.file.proofs.writer.Writer.tasks.Given as goal

-- the tasks up to here
abbrev pub invariant-loop-task : goal.invariant-loop-task
invariant-loop-task l = Wrote l.fn.self (text_of (each l.task-index (task_frame (table l.sheet)))) l.self
