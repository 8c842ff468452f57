-- What reading a line answers. Assumes nothing.
--     Reading          a frame, and the note of its line
--     reading line     what the line says, or why it says nothing
--     Says line r      the line is made of the frame and the note of r, and the frame fits
--     Refused line n   why the line says nothing, by the number of the refusal
--     Said line r      r is what the line says: the frame and the note that it is made of, or why it says nothing
--     OneSaying line   the line says one frame and one note, or else there is one reason why it says nothing
use denote.Ref.{Bor}
use Rattle.std.specs.Prelude.{List, ◌≡◌, ◌≢◌, ◌⊎◌, ℕ, ◌%◌, Option, Some, None, Result, Ok, Err, if◌then◌else◌, option_map, sum, ◌==◌}
use Rattle.common.specs.Refusals.{number}
use Rattle.common.specs.declared.refusal.Refusal.{Refusal}
use Rattle.common.specs.declared.refusal.Refusal.TheVariants.{NotALine, BadSum, BadFrame}
use Rattle.file.specs.Frames.{Fits, Frame, decoded, encoded}
use Rattle.file.specs.Lines.{IsLine, Parts, parts}
use Rattle.file.specs.declared.reading.Reading.{Reading as ReadingSlices}

pub record Reading : Type 0 where
  pub frame : Frame
  pub note : Option (List ℕ)

abbrev pub of_frame : Option (List ℕ) → Option Frame → Result Reading Refusal
of_frame n None = Err BadFrame
of_frame n (Some f) = Ok (record { frame = f; note = n })

abbrev pub of_parts : Option Parts → Result Reading Refusal
of_parts None = Err NotALine
of_parts (Some p) = if sum p.frame % 256 == 0 then of_frame p.note (decoded p.frame) else Err BadSum

abbrev pub reading : List ℕ → Result Reading Refusal
reading line = of_parts (parts line)

abbrev pub Says : List ℕ → Reading → Type 0
Says line r = Fits r.frame × IsLine line (encoded r.frame) r.note

pub data Refused (line : List ℕ) : ℕ → Type 0 where
  -- it is made of no frame and note
  not_a_line : ((bytes : List ℕ) (note : Option (List ℕ)) → IsLine line bytes note → ⊥) → Refused line (number NotALine)
  -- the bytes of its frame don't add up to 0 modulo 256
  bad_sum : (bytes : List ℕ) (note : Option (List ℕ)) → IsLine line bytes note → sum bytes % 256 ≢ 0 → Refused line (number BadSum)
  -- they do, and they are those of no frame that fits
  bad_frame : (bytes : List ℕ) (note : Option (List ℕ)) → IsLine line bytes note → sum bytes % 256 ≡ 0 →
      ((f : Frame) → Fits f → encoded f ≢ bytes) → Refused line (number BadFrame)

unfoldable pub Said : List ℕ → Result Reading Refusal → Type 0
Said line (Ok r) = Says line r
Said line (Err e) = Refused line (number e)

pub record OneSaying (line : List ℕ) : Type 0 where
  -- every list of numbers says something, or a refusal fits it
  pub some : ((r : Reading) × Says line r) ⊎ ((n : ℕ) × Refused line n)
  -- but not both
  pub apart : (r : Reading) (n : ℕ) → Says line r → Refused line n → ⊥
  -- it says no two things
  pub one : (r s : Reading) → Says line r → Says line s → r ≡ s
  -- and no two refusals fit it: just one of the three
  pub refusal : (m n : ℕ) → Refused line m → Refused line n → m ≡ n
  pub among : (n : ℕ) → Refused line n → (n ≡ 11) ⊎ (n ≡ 12) ⊎ (n ≡ 13)

-- what slices show
abbrev pub note_now : Option (Bor (List ℕ)) → Option (List ℕ)
note_now = option_map (λ n. n.now)

abbrev pub reading_now : ReadingSlices → Reading
reading_now x = record { frame = x.frame; note = note_now x.note }
