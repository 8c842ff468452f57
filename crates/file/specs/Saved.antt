-- What is saved of a sheet and a book. Assumes nothing.
--     each n f        the frames of f 0, then those of f 1, and so on up to f (n - 1)
--     frames t b      the frames of a table and of what a book holds: by kind, then by task; links by a, then by b; a task's
--                     steps by time; only the weights above 1
--     text_of fs      the lines of frames
--     saved t b       the text that is saved
--     Written text out out' r    what writing a text to the front of the memory answers and leaves: its length, where there is
--                     room for it, and behind it what was there; else 14, and then nothing is written
use Rattle.std.specs.Prelude.{List, [], ◌∷◌, ◌++◌, ◌≡◌, Bool, ℕ, zero, suc, ◌<◌, ◌≤◌, Option, Some, None, Result, Ok, Err, drop, if◌then◌else◌, length, map, nat_lt}
use Rattle.std.specs.List.{flat_map}
use Rattle.book.specs.Ramps.{ramp_of}
use Rattle.book.specs.Standard.{Contents}
use Rattle.book.specs.Steps.{steps_of}
use Rattle.book.specs.Weights.{weight_of}
use Rattle.book.specs.declared.step.Step.{Step}
use Rattle.common.specs.Refusals.{number}
use Rattle.common.specs.declared.refusal.Refusal.{Refusal}
use Rattle.common.specs.declared.refusal.Refusal.TheVariants.{Memory}
use Rattle.file.specs.Frames.{Frame, frame_line, task, link, hard, ramp, soft, step, weight}
use Rattle.sheet.specs.Links.{linked}
use Rattle.sheet.specs.Margins.{deadline_of}
use Rattle.sheet.specs.Tables.{Table, is_soft, task_of}

unfoldable pub each : ℕ → (ℕ → List Frame) → List Frame
each zero f = []
each (suc n) f = each n f ++ f n

abbrev pub if_so : Bool → Frame → List Frame
if_so holds f = if holds then f ∷ [] else []

abbrev pub if_some : {A : Type 0} → (A → Frame) → Option A → List Frame
if_some f None = []
if_some f (Some x) = f x ∷ []

-- the frames of task k: its own, and the links from it
abbrev pub task_frame : Table → ℕ → List Frame
task_frame t k = task (task_of t k).min (task_of t k).max ∷ []

abbrev pub link_frame : Table → (k x : ℕ) → List Frame
link_frame t k x = if_so (linked t k x) (link k x)

abbrev pub links_from : Table → ℕ → List Frame
links_from t k = each (length t) (link_frame t k)

-- its deadline, and that it is soft
abbrev pub hard_frame : Table → ℕ → List Frame
hard_frame t k = if_some (hard k) (deadline_of (task_of t k).kind)

abbrev pub soft_frame : Table → ℕ → List Frame
soft_frame t k = if_so (is_soft (task_of t k).kind) (soft k)

-- its ramp, its steps and its weight
abbrev pub ramp_frame : Contents → ℕ → List Frame
ramp_frame b k = if_some (λ r. ramp k r.peak r.knee r.foot) (ramp_of b.ramps k)

abbrev pub step_frame : ℕ → Step → Frame
step_frame k s = step k s.until s.worth

abbrev pub step_frames : Contents → ℕ → List Frame
step_frames b k = map (step_frame k) (steps_of b.steps k)

abbrev pub weight_frame : Contents → ℕ → List Frame
weight_frame b k = if_so (nat_lt 1 (weight_of b.weights k)) (weight k (weight_of b.weights k))

-- of numbers without a task too, where the book has a curve or a weight for them
abbrev pub frames : Table → Contents → List Frame
frames t b =
    each (length t) (task_frame t) ++ each (length t) (links_from t) ++ each (length t) (hard_frame t) ++ each 16 (ramp_frame b)
    ++ each (length t) (soft_frame t) ++ each 16 (step_frames b) ++ each 16 (weight_frame b)

-- their lines, without notes
unfoldable pub text_of : List Frame → List ℕ
text_of fs = flat_map frame_line fs

abbrev pub saved : Table → Contents → List ℕ
saved t b = text_of (frames t b)

abbrev pub Written : (text out out' : List ℕ) → Result ℕ Refusal → Type 0
Written text out out' (Ok len) = (len ≡ length text) × (len ≤ length out) × (out' ≡ text ++ drop len out)
Written text out out' (Err e) = (number e ≡ number Memory) × (length out < length text) × (out' ≡ out)
