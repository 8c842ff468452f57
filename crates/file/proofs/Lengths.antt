-- A saved text is short: of at most 16 tasks and six steps of each, the lines of each kind at their length. Assumes nothing.
use Rattle.std.proofs.Common.{List, [], ◌∷◌, Bool, true, false, ℕ, zero, suc, ◌*◌, ◌≤◌, Option, Some, None, arith, length, map}
use Rattle.std.proofs.lemmas.List.{length-append, length-take}
use Rattle.book.specs.Lists.{used}
use Rattle.book.specs.Ramps.{ramp_of}
use Rattle.book.specs.Standard.{Contents, contents}
use Rattle.book.specs.Steps.{steps_of}
use Rattle.book.specs.declared.standard.StandardBook.{StandardBook}
use Rattle.book.specs.declared.step.Steps.{Steps}
use Rattle.file.proofs.Writes.{text-append}
use Rattle.book.proofs.Steps.{of_each}
use Rattle.book.specs.declared.step.Step.{Step}
use Rattle.file.specs.Frames.{Frame, frame_line, task, link, hard, ramp, soft}
use Rattle.file.specs.Saved.{each, hard_frame, if_so, if_some, link_frame, links_from, ramp_frame, saved, soft_frame, step_frame, step_frames, task_frame, text_of, weight_frame}
use Rattle.sheet.proofs.Tables.{few-listed}
use Rattle.sheet.specs.Links.{linked}
use Rattle.sheet.specs.Margins.{deadline_of}
use Rattle.sheet.specs.Sheets.{table}
use Rattle.sheet.specs.Tables.{Table, is_soft, task_of}
use Rattle.sheet.specs.declared.sheet.Sheet.{Sheet}

length-one : (f : Frame) (m : ℕ) → length (frame_line f) ≤ m → length (text_of (f ∷ [])) ≤ m
unfolding text_of
length-one f m short = omega (arith, short, length-append (frame_line f) [])

length-so : (b : Bool) (f : Frame) (m : ℕ) → length (frame_line f) ≤ m → length (text_of (if_so b f)) ≤ m
unfolding text_of
length-so true f m short = length-one f m short
length-so false f m short = omega arith

length-some : {A : Type 0} (f : A → Frame) (o : Option A) (m : ℕ) → ((x : A) → length (frame_line (f x)) ≤ m) → length (text_of (if_some f o)) ≤ m
unfolding text_of
length-some f None m short = omega arith
length-some f (Some x) m short = length-one (f x) m (short x)

length-each : (n m : ℕ) (f : ℕ → List Frame) → ((k : ℕ) → length (text_of (f k)) ≤ m) → length (text_of (each n f)) ≤ n * m
unfolding each text_of
length-each zero m f short = omega arith
length-each (suc n) m f short =
    rw text-append (grind (arith, length-append (text_of (each n f)) (text_of (f n)), length-each n m f short, short n))

length-steps : (k : ℕ) (ss : List Step) → length (text_of (map (step_frame k) ss)) ≤ length ss * 19
unfolding text_of
length-steps k [] = omega arith
length-steps k (s ∷ ss) =
    omega (arith, length-append (frame_line (step_frame k s)) (text_of (map (step_frame k) ss)), length-steps k ss)

few-steps : (all : List Steps) (k : ℕ) → length (steps_of (map used all) k) ≤ 6
few-steps = of_each (λ ss. length ss ≤ 6) (omega arith) (λ own. omega (arith, length-take own.len own.list, own.few))

module _ (t : Table) (b : Contents) (few : length t ≤ 16) (steps : (k : ℕ) → length (steps_of b.steps k) ≤ 6) where
  length-links : (k : ℕ) → length (text_of (links_from t k)) ≤ 144
  length-links k = omega (arith, few, length-each (length t) 9 (link_frame t k) (λ x. length-so (linked t k x) (link k x) 9 (omega arith)))

  length-saved : length (saved t b) ≤ 5200
  length-saved =
      let n = length t in
      let tasks = length-each n 13 (task_frame t) (λ k. length-one (task (task_of t k).min (task_of t k).max) 13 (omega arith)) in
      let links = length-each n 144 (links_from t) length-links in
      let hards = length-each n 13 (hard_frame t) (λ k. length-some (hard k) (deadline_of (task_of t k).kind) 13 (λ d. omega arith)) in
      let ramps = length-each 16 25 (ramp_frame b) (λ k. length-some (λ r. ramp k r.peak r.knee r.foot) (ramp_of b.ramps k) 25 (λ r. omega arith)) in
      let softs = length-each n 7 (soft_frame t) (λ k. length-so (is_soft (task_of t k).kind) (soft k) 7 (omega arith)) in
      let added = length-each 16 114 (step_frames b) (λ k. omega (arith, length-steps k (steps_of b.steps k), steps k)) in
      let weights = length-each 16 9 (weight_frame b) (λ k. length-so _ _ 9 (omega arith)) in
      simp (text-append, length-append) (omega (arith, few))

pub saved-short : (s : Sheet) (x : StandardBook) → length (saved (table s) (contents x)) ≤ 5200
saved-short s x = length-saved (table s) (contents x) (few-listed s.table) (few-steps x.layers.inner.second.steps)
