-- A load goes line by line, and stops at the first line at fault. Assumes nothing.
--     front file k          what the first k lines of the file make, or their fault
--     line_makes file n m   what line n of the file makes of m, or its fault; lines are counted from 1
--     AtFault file fault    the lines before the fault's are without one, and its line has just this fault
--     LineByLine file       what a file makes is what its lines make, one after another; a file that is not too long either has no
--                           line at fault, or its fault is that of the first
--     FrontTells n          the first n bytes of a file tell what is loaded, and its fault
--     OneLoad               a file gives one sheet and one book at most
use Rattle.std.specs.Prelude.{List, [], ◌≡◌, ℕ, suc, ◌-◌, ◌<◌, ◌≤◌, IsOk, Result, Ok, Err, length, map, slice_index_or, take}
use Rattle.book.specs.declared.standard.StandardBook.{StandardBook}
use Rattle.file.specs.Faults.{Figures, figures}
use Rattle.file.specs.Lines.{pieces}
use Rattle.file.specs.Loads.{Made, and_then, loaded, longest, made, nothing_made, obeyed, run}
use Rattle.file.specs.Readings.{reading}
use Rattle.file.specs.declared.fault.Fault.TheVariants.{TooLong}
use Rattle.sheet.specs.declared.sheet.Sheet.{Sheet}

abbrev pub front : List ℕ → ℕ → Result Made Figures
front file k = run nothing_made 1 (map reading (take k (pieces file)))

abbrev pub line_makes : List ℕ → ℕ → Made → Result Made Figures
line_makes file n m = obeyed m n (reading (slice_index_or (pieces file) (n - 1) []))

pub record AtFault (file : List ℕ) (fault : Figures) : Type 0 where
  -- it is a line of the file
  pub first : 1 ≤ fault.line
  pub last : fault.line ≤ length (pieces file)
  -- what the lines before it make
  pub before : Made
  pub makes : front file (fault.line - 1) ≡ Ok before
  -- the line itself can't be read, or its call is refused
  pub stops : line_makes file fault.line before ≡ Err fault

pub record LineByLine (file : List ℕ) : Type 0 where
  -- no line makes nothing, and one more makes what its call makes of what those before it make
  pub none : front file 0 ≡ Ok nothing_made
  pub more : (k : ℕ) → k < length (pieces file) → front file (suc k) ≡ and_then (front file k) (line_makes file (suc k))
  -- all of them make what the file makes, where it is not too long
  pub all : length file ≤ longest → loaded file ≡ front file (length (pieces file))
  pub too_long : longest < length file → loaded file ≡ Err (figures TooLong)
  -- without a fault of the file, no front has one; and its fault is that of the first line at fault
  pub without : (m : Made) → loaded file ≡ Ok m → (k : ℕ) → IsOk (front file k)
  pub fault : (fault : Figures) → length file ≤ longest → loaded file ≡ Err fault → AtFault file fault
  -- the line that is told of any fault has a number of 16 bits
  pub told : (fault : Figures) → loaded file ≡ Err fault → fault.line < 65536

abbrev pub FrontTells : ℕ → Type 0
FrontTells n = (file : List ℕ) → loaded (take n file) ≡ loaded file

abbrev pub OneLoad : Type 0
OneLoad =
    (file : List ℕ) (s s' : Sheet) (b b' : StandardBook) → loaded file ≡ Ok (made s b) → loaded file ≡ Ok (made s' b') → (s ≡ s') × (b ≡ b')
