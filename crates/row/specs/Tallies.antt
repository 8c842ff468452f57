-- The figures of rows under the meaning m of a book. Assumes nothing.
--     Tells m t row y     the tally y has the figures of the row: its set, both sums, and what it has earned
--     Adds m t k y z      z is the tally y with task k, which runs right after what y counts. Sums stop at the largest 32-bit
--                         number, which those of a row never reach
use Rattle.std.specs.Prelude.{◌≡◌, ℕ, ◌+◌, ◌-◌, ◌^◌, min, sum_by}
use Rattle.book.specs.Worths.{Meaning}
use Rattle.common.specs.Sets.{adding}
use Rattle.plan.specs.Orders.{Order, expected, maximum}
use Rattle.plan.specs.Totals.{earns, total}
use Rattle.row.specs.Rows.{set_of}
use Rattle.row.specs.declared.tally.Tally.{Tally}
use Rattle.sheet.specs.Tables.{Table}

pub record Tells (m : Meaning) (t : Table) (row : Order) (y : Tally) : Type 0 where
  pub placed : y.placed.0 ≡ set_of row
  pub expected : y.load.expected.0 ≡ sum_by (expected t) row
  pub maximum : y.load.maximum.0 ≡ sum_by (maximum t) row
  pub total : y.total ≡ total m t row

abbrev pub capped : ℕ → ℕ
capped n = min n (2 ^ 32 - 1)

pub record Adds (m : Meaning) (t : Table) (k : ℕ) (y z : Tally) : Type 0 where
  pub placed : z.placed.0 ≡ adding y.placed.0 k
  pub expected : z.load.expected.0 ≡ capped (y.load.expected.0 + expected t k)
  pub maximum : z.load.maximum.0 ≡ capped (y.load.maximum.0 + maximum t k)
  pub total : z.total ≡ capped (y.total + earns m t k z.load.expected.0)
