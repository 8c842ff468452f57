use Rattle.std.proofs.Common.{◌^◌, length}
use Rattle.plan.specs.Next.{FilledFrom}
use Rattle.plan.specs.Planned.{KeptFrom}
use Rattle.sheet.specs.Sheets.{table}
use Rattle.plan.proofs.cells.fill.Given as goal

-- the cells of the sets from this number on
abbrev pub invariant-loop-number : goal.invariant-loop-number
invariant-loop-number g l = record {
  filled : FilledFrom (g.B.Book.meaning l.book) (table l.sheet) l.number l.cells;
  kept : KeptFrom (2 ^ length (table l.sheet)) l.fn.cells l.cells;
}
