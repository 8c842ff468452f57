-- A test of the lines that answer files, which computes. Assumes nothing.
--     tells bytes line     the line is that of the bytes
--     total_of m o         the total of the order o, by what is made
--     is_told m line o     the line tells the order o and its total, and o is the best
--     is_shown m line      the line shows the best order of what is made and its total, or why there is none
--     is_answer r line     the line answers a file that makes r, or whose fault r is
--     AnswerTests m        the test finds exactly what is shown
use Rattle.std.specs.Prelude.{Bool, ◌&&◌, ◌||◌, List, ℕ, ◌≡◌, Decides, Result, Ok, Err, bytes_eq, length, nat_le, nat_lt}
use Rattle.std.specs.List.{list_any}
use Rattle.answer.specs.Answers.{Shows, fault_bytes, most, order_bytes}
use Rattle.book.specs.Standard.{worth_of}
use Rattle.common.specs.declared.refusal.Refusal.TheVariants.{Memory, NoOrder}
use Rattle.file.specs.Faults.{Figures, figures}
use Rattle.file.specs.Frames.{bytes_line}
use Rattle.file.specs.Loads.{Made}
use Rattle.file.specs.declared.fault.Fault.TheVariants.{Plan}
use Rattle.plan.specs.Tests.{following, is_best, none_lawful}
use Rattle.plan.specs.Orders.{Order}
use Rattle.plan.specs.Totals.{total}

abbrev pub tells : (bytes line : List ℕ) → Bool
tells bytes line = bytes_eq line (bytes_line bytes)

abbrev pub total_of : Made → Order → ℕ
total_of m o = total (worth_of m.worths) m.tasks o

abbrev pub is_told : Made → List ℕ → Order → Bool
is_told m line o = tells (order_bytes o (total_of m o)) line && is_best (worth_of m.worths) m.tasks o (total_of m o)

abbrev pub is_shown : Made → List ℕ → Bool
is_shown m line =
    (nat_lt most (length m.tasks) && tells (fault_bytes (figures (Plan Memory))) line)
    || (nat_le (length m.tasks) most
    && ((none_lawful m.tasks && tells (fault_bytes (figures (Plan NoOrder))) line) || list_any (is_told m line) (following m.tasks 0)))

abbrev pub is_answer : Result Made Figures → List ℕ → Bool
is_answer (Ok m) line = is_shown m line
is_answer (Err fault) line = tells (fault_bytes fault) line

pub record AnswerTests (m : Made) : Type 0 where
  pub shown : (line : List ℕ) → Decides (is_shown m line) ((bytes : List ℕ) × Shows m bytes × (line ≡ bytes_line bytes))
