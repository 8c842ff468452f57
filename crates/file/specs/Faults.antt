-- The layer, the cause and the line of each fault. Assumes nothing.
--     Figures          what is told of a fault: its layer, the number of the refusal that is its cause, and its line
--     figures f        those of the fault f
--     unread n e       those of the line n, which can't be read for the reason e
use Rattle.std.specs.Prelude.{ℕ, ◌==◌, if◌then◌else◌}
use Rattle.common.specs.Refusals.{number}
use Rattle.common.specs.declared.refusal.Refusal.{Refusal}
use Rattle.common.specs.declared.refusal.Refusal.TheVariants.{NotALine, Memory}
use Rattle.file.specs.declared.fault.Fault.{Fault}
use Rattle.file.specs.declared.fault.Fault.TheVariants.{TooLong, Text, Frame, Sheet, Book, Plan}

pub record Figures : Type 0 where
  -- 1 the text, 2 a frame, 3 the sheet, 4 the book, 5 the plan
  pub layer : ℕ
  pub cause : ℕ
  -- counted from 1; 0 where no line is meant
  pub line : ℕ

abbrev pub told : (layer cause line : ℕ) → Figures
told layer cause line = record { layer = layer; cause = cause; line = line }

abbrev pub figures : Fault → Figures
figures TooLong = told 1 (number Memory) 0
figures (Text line) = told 1 (number NotALine) line
figures (Frame line cause) = told 2 (number cause) line
figures (Sheet line cause) = told 3 (number cause) line
figures (Book line cause) = told 4 (number cause) line
figures (Plan cause) = told 5 (number cause) 0

abbrev pub unread : ℕ → Refusal → Figures
unread line cause = told (if number cause == number NotALine then 1 else 2) (number cause) line
