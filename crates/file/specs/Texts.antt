-- What faults print. Assumes nothing.
use Rattle.std.specs.Prelude.{List, ℕ, ◌++◌, codes}
use Rattle.common.specs.Texts.{refusal_text, spaced}
use Rattle.common.specs.declared.refusal.Refusal.TheVariants.{NotALine}
use Rattle.common.specs.declared.refusal.Refusal.{Refusal}
use Rattle.file.specs.declared.fault.Fault.{Fault}
use Rattle.file.specs.declared.fault.Fault.TheVariants.{TooLong, Text, Frame, Sheet, Book, Plan}

abbrev pub line_text : ℕ → Refusal → List ℕ
line_text line cause = codes "line" ++ spaced line ++ codes ": " ++ refusal_text cause

abbrev pub fault_text : Fault → List ℕ
fault_text TooLong = codes "the file has more than 65535 bytes"
fault_text (Text line) = line_text line NotALine
fault_text (Frame line cause) = line_text line cause
fault_text (Sheet line cause) = line_text line cause
fault_text (Book line cause) = line_text line cause
fault_text (Plan cause) = codes "no plan: " ++ refusal_text cause
