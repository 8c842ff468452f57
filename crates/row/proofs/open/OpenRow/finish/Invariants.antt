use Rattle.std.proofs.Common.{◌≡◌, ◌-◌, length}
use Rattle.std.specs.Int.RustNames.{count_ones}
use Rattle.plan.specs.Orders.{Order}
use Rattle.row.proofs.Firsts.{NoneBelow}
use Rattle.row.specs.Laid.{laid}
use Rattle.row.specs.Rows.{First}
use Rattle.sheet.specs.Sheets.{table}
use Rattle.row.proofs.open.OpenRow.finish.Given as goal

-- the first order of the row as it now is, is that of the row as it was
abbrev pub invariant-loop : goal.invariant-loop
invariant-loop l = record {
  sheet : l.self.sheet ≡ l.fn.self.sheet;
  counts : count_ones l.self.placed.0 ≡ l.counter;
  first : (o : Order) → First (table l.fn.self.sheet) (laid l.self) o → First (table l.fn.self.sheet) (laid l.fn.self) o;
}

-- no task below t may be placed next
abbrev pub invariant-loop-t : goal.invariant-loop-t
invariant-loop-t l = NoneBelow (table l.self.sheet) (laid l.self) l.t

abbrev pub decreases-loop-t : goal.decreases-loop-t
decreases-loop-t l = length (table l.self.sheet) - l.t
