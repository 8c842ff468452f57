use Rattle.sheet.proofs.Ancestors.{Gathered}
use Rattle.sheet.specs.Remaining.{asks}
use Rattle.sheet.specs.Sheets.{table}
use Rattle.sheet.proofs.sheet.Sheet.pressing.Given as goal

abbrev pub invariant-loop-h : goal.invariant-loop-h
invariant-loop-h l = Gathered (table l.self) (asks (table l.self) l.done.0 l.deadline) 0 l.all.0 l.h
