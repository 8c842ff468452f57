-- Frames: what each kind holds, and its bytes. Assumes nothing.
--     body f           the bytes of a frame but the last: its kind, and its fields, the high byte of a number first
--     closing bytes    the byte that makes the sum of all a multiple of 256
--     bytes_line bs    the line of the bytes bs and the closing one
--     encoded f        the bytes of a frame
--     frame_line f     its line, without a note
--     Fits f           each field of the frame fits its bytes
--     decoded bytes    the frame that has these bytes, whatever the last one is; absent where it would be of no known kind, or of
--                      another length
use Rattle.std.specs.Prelude.{Bool, ◌&&◌, List, [], ◌∷◌, ◌++◌, ℕ, ◌+◌, ◌-◌, ◌*◌, ◌/◌, ◌%◌, ◌^◌, ◌<◌, Option, Some, None, if◌then◌else◌, length, slice_index_or, sum, ◌==◌}
use Rattle.file.specs.Lines.{line_of}
pub use Rattle.file.specs.declared.frame.Frame.{Frame}
pub use Rattle.file.specs.declared.frame.Frame.TheVariants.{Task as task, Link as link, Hard as hard, Ramp as ramp, Soft as soft, Step as step, Weight as weight}

-- a number in two bytes, and in three
abbrev pub two : ℕ → List ℕ
two n = n / 256 % 256 ∷ n % 256 ∷ []

abbrev pub three : ℕ → List ℕ
three n = n / 65536 % 256 ∷ n / 256 % 256 ∷ n % 256 ∷ []

abbrev pub body : Frame → List ℕ
body (task min max) = 1 ∷ two min ++ two max
body (link a b) = 2 ∷ a ∷ b ∷ []
body (hard t deadline) = 3 ∷ t ∷ three deadline
body (ramp t peak knee foot) = 4 ∷ t ∷ three peak ++ three knee ++ three foot
body (soft t) = 5 ∷ t ∷ []
body (step t until worth) = 6 ∷ t ∷ three until ++ three worth
body (weight t w) = 7 ∷ t ∷ w ∷ []

abbrev pub closing : List ℕ → ℕ
closing bytes = (256 - sum bytes % 256) % 256

-- the bytes with the closing one behind them
abbrev pub closed : List ℕ → List ℕ
closed bytes = bytes ++ closing bytes ∷ []

abbrev pub bytes_line : List ℕ → List ℕ
bytes_line bs = line_of (closed bs) None

abbrev pub encoded : Frame → List ℕ
encoded f = closed (body f)

abbrev pub frame_line : Frame → List ℕ
frame_line f = bytes_line (body f)

abbrev pub Fits : Frame → Type 0
Fits (task min max) = (min < 2 ^ 16) × (max < 2 ^ 16)
Fits (link a b) = (a < 2 ^ 8) × (b < 2 ^ 8)
Fits (hard t deadline) = (t < 2 ^ 8) × (deadline < 2 ^ 24)
Fits (ramp t peak knee foot) = (t < 2 ^ 8) × (peak < 2 ^ 24) × (knee < 2 ^ 24) × (foot < 2 ^ 24)
Fits (soft t) = t < 2 ^ 8
Fits (step t until worth) = (t < 2 ^ 8) × (until < 2 ^ 24) × (worth < 2 ^ 24)
Fits (weight t w) = (t < 2 ^ 8) × (w < 2 ^ 8)

-- The same, found from the bytes.

-- byte i, and the number of the two bytes from i on, and of the three
abbrev pub at : List ℕ → ℕ → ℕ
at bytes i = slice_index_or bytes i 0

abbrev pub two_at : List ℕ → ℕ → ℕ
two_at bytes i = 256 * at bytes i + at bytes (i + 1)

abbrev pub three_at : List ℕ → ℕ → ℕ
three_at bytes i = 65536 * at bytes i + 256 * at bytes (i + 1) + at bytes (i + 2)

-- the first byte is the kind, and there are so many
abbrev pub has_form : List ℕ → (kind count : ℕ) → Bool
has_form bytes kind count = at bytes 0 == kind && length bytes == count

unfoldable pub decoded : List ℕ → Option Frame
decoded bytes =
    if has_form bytes 1 6 then Some (task (two_at bytes 1) (two_at bytes 3))
    else (if has_form bytes 2 4 then Some (link (at bytes 1) (at bytes 2))
    else (if has_form bytes 3 6 then Some (hard (at bytes 1) (three_at bytes 2))
    else (if has_form bytes 4 12 then Some (ramp (at bytes 1) (three_at bytes 2) (three_at bytes 5) (three_at bytes 8))
    else (if has_form bytes 5 3 then Some (soft (at bytes 1))
    else (if has_form bytes 6 9 then Some (step (at bytes 1) (three_at bytes 2) (three_at bytes 5))
    else (if has_form bytes 7 4 then Some (weight (at bytes 1) (at bytes 2))
    else None))))))
