-- What a file means: its lines make their calls, from the first on, on a new sheet and a new standard book. Assumes nothing.
--     made s b          the table of the sheet s and the contents of the book b
--     nothing_made      those of a new sheet and a new book
--     call_of f         the call that the frame f makes
--     verdict m call    0 where the call is accepted, else the number of its refusal
--     after m call      what is made after the call
--     called m n call   what the call of line n makes of m, or its fault
--     obeyed m n r      what line n makes of m, which is read as r; or its fault
--     run m n rs        what the lines make of m that are read as rs, the first of them line n; or the fault of the first at fault
--     loaded file       what the file makes, or its fault
use Rattle.std.specs.Prelude.{List, [], ◌∷◌, ℕ, suc, ◌==◌, Result, Ok, Err, if◌then◌else◌, length, map, nat_lt}
use Rattle.book.specs.Standard.{Contents, contents, nothing}
use Rattle.book.specs.declared.standard.StandardBook.{StandardBook}
use Rattle.common.specs.declared.refusal.Refusal.{Refusal}
use Rattle.file.specs.Faults.{Figures, figures, told, unread}
use Rattle.file.specs.Frames.{Frame, task, link, hard, ramp, soft, step, weight}
use Rattle.file.specs.Lines.{pieces}
use Rattle.file.specs.Readings.{Reading, reading}
use Rattle.file.specs.declared.call.Call.{Call}
use Rattle.file.specs.declared.call.Call.TheVariants.{OnSheet, OnBook}
use Rattle.file.specs.declared.fault.Fault.TheVariants.{TooLong}
use Rattle.sheet.specs.Sheets.{table}
use Rattle.sheet.specs.Tables.{Table}
use Rattle.sheet.specs.declared.sheet.Sheet.{Sheet}
use Rattle.book.specs.Standard as book
use Rattle.book.specs.declared.call.Call.TheVariants.{Ramp, Step, Weight}
use Rattle.sheet.specs.Calls as sheet
use Rattle.sheet.specs.declared.call.Call.TheVariants.{Task, Link, Hard, Soft}

pub record Made : Type 0 where
  pub tasks : Table
  pub worths : Contents

abbrev pub made : Sheet → StandardBook → Made
made s b = record { tasks = table s; worths = contents b }

abbrev pub nothing_made : Made
nothing_made = record { tasks = []; worths = nothing }

abbrev pub call_of : Frame → Call
call_of (task min max) = OnSheet (Task min max)
call_of (link a b) = OnSheet (Link a b)
call_of (hard t deadline) = OnSheet (Hard t deadline)
call_of (ramp t peak knee foot) = OnBook (Ramp t peak knee foot)
call_of (soft t) = OnSheet (Soft t)
call_of (step t until worth) = OnBook (Step t until worth)
call_of (weight t w) = OnBook (Weight t w)

abbrev pub verdict : Made → Call → ℕ
verdict m (OnSheet call) = sheet.verdict m.tasks call
verdict m (OnBook call) = book.verdict m.worths call

abbrev pub after : Made → Call → Made
after m (OnSheet call) = record m { tasks = sheet.after m.tasks call }
after m (OnBook call) = record m { worths = book.after m.worths call }

-- the layer that may refuse the call
abbrev pub layer : Call → ℕ
layer (OnSheet call) = 3
layer (OnBook call) = 4

abbrev pub called : Made → ℕ → Call → Result Made Figures
called m n call = if verdict m call == 0 then Ok (after m call) else Err (told (layer call) (verdict m call) n)

abbrev pub obeyed : Made → ℕ → Result Reading Refusal → Result Made Figures
obeyed m n (Ok r) = called m n (call_of r.frame)
obeyed m n (Err cause) = Err (unread n cause)

-- the first, and then what the second makes of it
abbrev pub and_then : {A B : Type 0} → Result A Figures → (A → Result B Figures) → Result B Figures
and_then (Ok x) more = more x
and_then (Err fault) more = Err fault

unfoldable pub run : Made → ℕ → List (Result Reading Refusal) → Result Made Figures
run m n [] = Ok m
run m n (r ∷ rs) = and_then (obeyed m n r) (λ made. run made (suc n) rs)

-- a longer file is not loaded
abbrev pub longest : ℕ
longest = 65535

unfoldable pub loaded : List ℕ → Result Made Figures
loaded file = if nat_lt longest (length file) then Err (figures TooLong) else run nothing_made 1 (map reading (pieces file))
