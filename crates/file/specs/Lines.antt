-- The lines of a sheet file, as bytes: how a file is cut, and which frame and which note a line has. Assumes nothing.
--     pieces file              the file, cut after each 0A; what follows the last one is a piece too
--     ArePieces ps file        the file is made of these pieces
--     pairs frame              the bytes of a frame as pairs of digits
--     line_of frame note       the line of a frame and a note
--     IsLine line frame note   the line is made of this frame and this note
--     bytes_of digits          the bytes that pairs of digits stand for
--     parts line               the frame and the note of a line; absent where it is no line
use Rattle.std.specs.Prelude.{Bool, ◌&&◌, ◌||◌, List, [], ◌∷◌, ◌++◌, ◌≡◌, ◌≢◌, ℕ, suc, ◌+◌, ◌-◌, ◌*◌, ◌/◌, ◌%◌, ◌<◌, ◌≤◌, All, IfSome, Option, Some, None, drop, if◌then◌else◌, length, nat_le, nat_lt, option_map, slice_index_or, take, ◌==◌}
use Rattle.std.specs.List.{concat, onto_first, prefix_len}

abbrev pub pieces : List ℕ → List (List ℕ)
pieces [] = []
pieces (b ∷ bs) = if b == 10 then (b ∷ []) ∷ pieces bs else onto_first b (pieces bs)

-- 0A stands nowhere in the piece but perhaps at its end
abbrev pub Uncut : List ℕ → Type 0
Uncut piece = (i : ℕ) → suc i < length piece → slice_index_or piece i 0 ≢ 10

pub record ArePieces (ps : List (List ℕ)) (file : List ℕ) : Type 0 where
  -- one behind another they are the file, and none is empty
  pub whole : concat ps ≡ file
  pub some : All (λ piece. 0 < length piece) ps
  -- 0A stands at the end of each but perhaps the last, and nowhere else in one
  pub ended : (k : ℕ) → suc k < length ps → let piece = slice_index_or ps k [] in slice_index_or piece (length piece - 1) 0 ≡ 10
  pub within : All Uncut ps

-- the digit of a number below 16: 0 to 9, A to F
abbrev pub digit : ℕ → ℕ
digit n = if nat_lt n 10 then 48 + n else 55 + n

-- each byte as two digits, the high one first
abbrev pub pairs : List ℕ → List ℕ
pairs [] = []
pairs (b ∷ bs) = digit (b / 16) ∷ digit (b % 16) ∷ pairs bs

-- a note stands behind a blank
abbrev pub note_bytes : Option (List ℕ) → List ℕ
note_bytes None = []
note_bytes (Some note) = 32 ∷ note

abbrev pub line_of : (frame : List ℕ) (note : Option (List ℕ)) → List ℕ
line_of frame note = pairs frame ++ (note_bytes note ++ 10 ∷ [])

-- a byte of a note
abbrev pub Prints : ℕ → Type 0
Prints c = (32 ≤ c) × (c ≤ 126)

-- one or more bytes in pairs, then perhaps a note of bytes 20 to 7E, then 0A
pub record IsLine (line frame : List ℕ) (note : Option (List ℕ)) : Type 0 where
  pub some : 0 < length frame
  pub bytes : All (λ b. b < 256) frame
  pub prints : IfSome note (All Prints)
  pub made : line ≡ line_of frame note

-- The same, found from the line.

abbrev pub is_digit : ℕ → Bool
is_digit c = (nat_le 48 c && nat_le c 57) || (nat_le 65 c && nat_le c 70)

-- the number that a digit stands for; 0 for any other byte
abbrev pub value : ℕ → ℕ
value c = if nat_le 48 c && nat_le c 57 then c - 48 else (if nat_le 65 c && nat_le c 70 then c - 55 else 0)

abbrev pub bytes_of : List ℕ → List ℕ
bytes_of [] = []
bytes_of (h ∷ []) = []
bytes_of (h ∷ l ∷ digits) = (16 * value h + value l) ∷ bytes_of digits

abbrev pub prints : ℕ → Bool
prints c = nat_le 32 c && nat_le c 126

-- the bytes before the 0A that ends the list, where all of them print
abbrev pub to_end : List ℕ → Option (List ℕ)
to_end [] = None
to_end (c ∷ []) = if c == 10 then Some [] else None
to_end (c ∷ d ∷ cs) = if prints c then option_map (λ note. c ∷ note) (to_end (d ∷ cs)) else None

-- the note, or that there is none, in what is behind the digits; absent where that does not end a line
unfoldable pub note_in : List ℕ → Option (Option (List ℕ))
note_in [] = None
note_in (c ∷ cs) =
    if c == 32 then option_map Some (to_end cs) else (if c == 10 && length cs == 0 then Some None else None)

pub record Parts : Type 0 where
  pub frame : List ℕ
  pub note : Option (List ℕ)

-- the digits at the front are an even count, and at least two
unfoldable pub parts : List ℕ → Option Parts
parts line =
    let n = prefix_len is_digit line in
    if nat_lt 0 n && (n % 2 == 0) then
    option_map (λ note. record { frame = bytes_of (take n line); note = note }) (note_in (drop n line))
    else None
