-- The names of tasks. Assumes nothing.
--     trimmed bytes           the bytes without the blanks at their end
--     Trimmed bytes short     these are short
--     task_notes file         the note of each task line of the file, empty where it has none; the file's pieces that are lines and
--                             whose frame begins with 01 are task lines, whether or not it is a task's frame
--     IsTaskLine piece note   the piece is a task line with this note, or with none
--     NoteOf note t ps        this is the note of task line t of the pieces, the one with t task lines before it; or it has none
--     PartOf bytes file       the bytes stand in the file, one behind another
--     name_of file names t    the note of task line t, or else line t of the names; either without the blanks at its end
--     IsName file names t n   this is n, and it stands in the file or in the names
--     Named                   where there are more than t task lines, the name of task t is this
--     Counted                 where there is a task line t, there are more than t
use Rattle.std.specs.Prelude.{List, [], ◌∷◌, ◌++◌, ◌≡◌, ◌≢◌, ℕ, suc, ◌<◌, ◌&&◌, IfSome, Option, Some, None, filter_map, if◌then◌else◌, replicate, slice_index_or, unwrap_or, ◌==◌, length}
use Rattle.std.specs.List.{slice_split}
use Rattle.file.specs.Frames.{at}
use Rattle.file.specs.Lines.{IsLine, Parts, parts, pieces}

unfoldable pub trimmed : List ℕ → List ℕ
trimmed [] = []
trimmed (b ∷ bs) = if b == 32 && length (trimmed bs) == 0 then [] else b ∷ trimmed bs

pub record Trimmed (bytes short : List ℕ) : Type 0 where
  -- blanks are cut off at the end, and none is left there
  pub blanks : ℕ
  pub made : bytes ≡ short ++ replicate blanks 32
  pub none : (front : List ℕ) → short ≢ front ++ 32 ∷ []

abbrev pub task_note : Option Parts → Option (List ℕ)
task_note None = None
task_note (Some p) = if at p.frame 0 == 1 then Some (unwrap_or p.note []) else None

abbrev pub task_notes : List ℕ → List (List ℕ)
task_notes file = filter_map (λ piece. task_note (parts piece)) (pieces file)

pub record IsTaskLine (piece : List ℕ) (note : Option (List ℕ)) : Type 0 where
  pub frame : List ℕ
  pub line : IsLine piece frame note
  pub begins : at frame 0 ≡ 1

pub data NoteOf (note : Option (List ℕ)) : ℕ → List (List ℕ) → Type 0 where
  first : (piece : List ℕ) (ps : List (List ℕ)) → IsTaskLine piece note → NoteOf note 0 (piece ∷ ps)
  later : (piece : List ℕ) (own : Option (List ℕ)) (t : ℕ) (ps : List (List ℕ)) → IsTaskLine piece own → NoteOf note t ps → NoteOf note (suc t) (piece ∷ ps)
  other : (piece : List ℕ) (t : ℕ) (ps : List (List ℕ)) → ((own : Option (List ℕ)) → IsTaskLine piece own → ⊥) → NoteOf note t ps → NoteOf note t (piece ∷ ps)

abbrev pub PartOf : (bytes file : List ℕ) → Type 0
PartOf bytes file = (before behind : List ℕ) × (file ≡ before ++ (bytes ++ behind))

-- line t of the names, empty past the last
abbrev pub names_line : List ℕ → ℕ → List ℕ
names_line names t = slice_index_or (slice_split (λ b. b == 10) names) t []

abbrev pub name_of : (file names : List ℕ) (t : ℕ) → List ℕ
name_of file names t =
    let own = trimmed (slice_index_or (task_notes file) t []) in
    if length own == 0 then trimmed (names_line names t) else own

pub data IsName (file names : List ℕ) (t : ℕ) (name : List ℕ) : Type 0 where
  -- the note of task line t without the blanks at its end, where that leaves something
  noted : (note : List ℕ) → NoteOf (Some note) t (pieces file) → Trimmed note name → name ≢ [] → PartOf name file → IsName file names t name
  -- line t of the names without those at its end, where the note leaves nothing or there is none
  listed : (note : Option (List ℕ)) → NoteOf note t (pieces file) → IfSome note (λ n. Trimmed n []) → Trimmed (names_line names t) name → PartOf name names → IsName file names t name

abbrev pub Named : Type 0
Named = (file names : List ℕ) (t : ℕ) → t < length (task_notes file) → IsName file names t (name_of file names t)

abbrev pub Counted : Type 0
Counted = (file : List ℕ) (t : ℕ) (note : Option (List ℕ)) → NoteOf note t (pieces file) → t < length (task_notes file)
