-- The list of tasks that the places of a table hold. Assumes nothing.
use Rattle.std.specs.Prelude.{take}
use Rattle.sheet.specs.Tables.{Table}
use Rattle.sheet.specs.declared.table.Table.{Table as Places}

abbrev pub listed : Places → Table
listed p = take p.len p.tasks
