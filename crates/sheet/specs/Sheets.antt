-- The table of tasks that a sheet holds. Assumes nothing.
use Rattle.sheet.specs.Lists.{listed}
use Rattle.sheet.specs.Tables.{Table}
use Rattle.sheet.specs.declared.sheet.Sheet.{Sheet}

abbrev pub table : Sheet → Table
table s = listed s.table
