-- What rows hold: their sheets, and their tasks, the first to run first. Assumes nothing.
--     open_sheet r    the sheet of an open row
--     full_sheet r    the sheet of a full row
--     laid r          the tasks of an open row: as many as its placed set has members
--     order_of r      the tasks of a full row: as many as its sheet has tasks
use Rattle.std.specs.Prelude.{count_ones, length, take}
use Rattle.plan.specs.Orders.{Order}
use Rattle.row.specs.declared.full.FullRow.{FullRow}
use Rattle.row.specs.declared.open.OpenRow.{OpenRow}
use Rattle.sheet.specs.Sheets.{table}
use Rattle.sheet.specs.declared.sheet.Sheet.{Sheet}

abbrev pub open_sheet : OpenRow → Sheet
open_sheet r = r.sheet

abbrev pub full_sheet : FullRow → Sheet
full_sheet r = r.sheet

abbrev pub laid : OpenRow → Order
laid r = take (count_ones r.placed.0) r.order

abbrev pub order_of : FullRow → Order
order_of r = take (length (table r.sheet)) r.order
