-- Tests of sheet files that compute. Assumes nothing.
--     fields f                the kind of a frame by its number, and what it holds
--     same_frame f g          f and g are the same frame
--     is_frame f r            r, which is what reading a line answers, is the frame f and a note or none
--     is_refused e r          r is the refusal e
--     is_noted note r         r is a frame and this note
--     all_read lines fs       the lines are read as the frames fs
--     all_refused lines e     each of the lines is refused so
--     all_names file names    the names of the tasks in turn, as many as there are task lines, each with 0A behind it
--     FileTests               these tests, which compute, find exactly what is read
use Rattle.std.specs.Prelude.{Bool, true, false, ◌&&◌, List, [], ◌∷◌, ◌++◌, ◌≡◌, ℕ, ◌==◌, Decides, Option, Result, Ok, Err, bytes_eq, flat_map, length}
use Rattle.std.specs.List.{list_all, range_with_len}
use Rattle.std.specs.Option.{option_eq}
use Rattle.common.specs.Refusals.{number, outcome}
use Rattle.common.specs.declared.refusal.Refusal.{Refusal}
use Rattle.file.specs.Names.{name_of, task_notes}
use Rattle.file.specs.Readings.{Reading, reading}
use Rattle.file.specs.declared.frame.Frame.{Frame}
use Rattle.file.specs.declared.frame.Frame.TheVariants.{Task, Link, Hard, Ramp, Soft, Step, Weight}

abbrev pub fields : Frame → List ℕ
fields (Task min max) = 1 ∷ min ∷ max ∷ []
fields (Link a b) = 2 ∷ a ∷ b ∷ []
fields (Hard t deadline) = 3 ∷ t ∷ deadline ∷ []
fields (Ramp t peak knee foot) = 4 ∷ t ∷ peak ∷ knee ∷ foot ∷ []
fields (Soft t) = 5 ∷ t ∷ []
fields (Step t until worth) = 6 ∷ t ∷ until ∷ worth ∷ []
fields (Weight t weight) = 7 ∷ t ∷ weight ∷ []

abbrev pub same_frame : Frame → Frame → Bool
same_frame f g = bytes_eq (fields f) (fields g)

abbrev pub is_frame : Frame → Result Reading Refusal → Bool
is_frame f (Ok r) = same_frame r.frame f
is_frame f (Err e) = false

abbrev pub all_read : List (List ℕ) → List Frame → Bool
all_read [] [] = true
all_read [] (f ∷ fs) = false
all_read (line ∷ lines) [] = false
all_read (line ∷ lines) (f ∷ fs) = is_frame f (reading line) && all_read lines fs

abbrev pub is_refused : Refusal → Result Reading Refusal → Bool
is_refused e r = outcome r == number e

abbrev pub all_refused : List (List ℕ) → Refusal → Bool
all_refused lines e = list_all (λ line. is_refused e (reading line)) lines

abbrev pub is_noted : Option (List ℕ) → Result Reading Refusal → Bool
is_noted expected (Ok r) = option_eq bytes_eq r.note expected
is_noted expected (Err e) = false

abbrev pub all_names : (file names : List ℕ) → List ℕ
all_names file names = flat_map (λ k. name_of file names k ++ 10 ∷ []) (range_with_len 0 (length (task_notes file)))

pub record FileTests : Type 0 where
  pub frame : (f : Frame) (r : Result Reading Refusal) → Decides (is_frame f r) ((note : Option (List ℕ)) × (r ≡ Ok (record { frame = f; note = note })))
  pub refused : (e : Refusal) (r : Result Reading Refusal) → Decides (is_refused e r) (r ≡ Err e)
  pub noted : (note : Option (List ℕ)) (r : Result Reading Refusal) → Decides (is_noted note r) ((f : Frame) × (r ≡ Ok (record { frame = f; note = note })))
