-- What is written is read again, and can be read in no other way. Assumes nothing.
--     OneCutting        a file is made of its pieces, and of no others
--     OneReading        a line is made of one frame and one note at most
--     DecodedBack       the bytes of a frame that fits are decoded to that frame
--     DecodedOnly       and no others that add up to 0 modulo 256 are
--     ReadBack          the line of a frame and a note is read as that frame and that note
--     SavedReads t b    what is saved of a table and a book's contents is cut into lines, each of which is read as its frame
--     SavedLoads s b    what is saved of a sheet and a book is loaded as what they hold
--     LoadsOnly s b     and a sheet and a book that hold what is loaded of it are these very values
use Rattle.std.specs.Prelude.{List, ◌≡◌, ◌↔◌, ℕ, ◌%◌, ◌<◌, All, IfSome, Option, Some, None, Ok, map, sum}
use Rattle.book.specs.Standard.{Contents, contents}
use Rattle.book.specs.declared.standard.StandardBook.{StandardBook}
use Rattle.file.specs.Frames.{Fits, Frame, decoded, encoded}
use Rattle.file.specs.Lines.{ArePieces, IsLine, Prints, line_of, pieces}
use Rattle.file.specs.Loads.{loaded, made}
use Rattle.file.specs.Readings.{reading}
use Rattle.file.specs.Saved.{frames, saved}
use Rattle.sheet.specs.Sheets.{table}
use Rattle.sheet.specs.Tables.{Table}
use Rattle.sheet.specs.declared.sheet.Sheet.{Sheet}

abbrev pub OneCutting : Type 0
OneCutting = (file : List ℕ) (ps : List (List ℕ)) → ArePieces ps file ↔ (ps ≡ pieces file)

abbrev pub OneReading : Type 0
OneReading =
    (line f g : List ℕ) (m n : Option (List ℕ)) → IsLine line f m → IsLine line g n → (f ≡ g) × (m ≡ n)

abbrev pub DecodedBack : Type 0
DecodedBack = (f : Frame) → Fits f → decoded (encoded f) ≡ Some f

abbrev pub DecodedOnly : Type 0
DecodedOnly =
    (bytes : List ℕ) (f : Frame) → All (λ b. b < 256) bytes → sum bytes % 256 ≡ 0 → decoded bytes ≡ Some f → Fits f × (encoded f ≡ bytes)

abbrev pub ReadBack : Type 0
ReadBack =
    (f : Frame) (note : Option (List ℕ)) → Fits f → IfSome note (All Prints) → reading (line_of (encoded f) note) ≡ Ok (record { frame = f; note = note })

abbrev pub SavedReads : Table → Contents → Type 0
SavedReads t b = map reading (pieces (saved t b)) ≡ map (λ f. Ok (record { frame = f; note = None })) (frames t b)

abbrev pub SavedLoads : Sheet → StandardBook → Type 0
SavedLoads s b = loaded (saved (table s) (contents b)) ≡ Ok (made s b)

abbrev pub LoadsOnly : Sheet → StandardBook → Type 0
LoadsOnly s b = (s' : Sheet) (b' : StandardBook) → loaded (saved (table s) (contents b)) ≡ Ok (made s' b') → (s' ≡ s) × (b' ≡ b)
