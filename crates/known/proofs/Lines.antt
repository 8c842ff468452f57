-- The tests of sheet files of specs/Files.antt decide what the definitions say. Assumes nothing.
use Rattle.std.proofs.Common.{◌≡◌, refl, sym, ap, ◌∙◌, List, [], ◌∷◌, ℕ, ◌-◌, arith, eqb, if◌then◌else◌, Option, Some, None}
use Rattle.std.proofs.lemmas.Bool.Decides.{Decides-eqb, Decides-like}
use Rattle.std.proofs.lemmas.Slice.Eq.{bytes_eq-Decides}
use Rattle.std.specs.Option.{option_eq}
use Rattle.std.specs.Prelude.{Decides, Result, Ok, Err, bytes_eq, slice_index_or}
use Rattle.common.proofs.Refusals.{number-pos}
use Rattle.common.specs.Refusals.{number}
use Rattle.common.specs.declared.refusal.Refusal.{Refusal}
use Rattle.common.specs.declared.refusal.Refusal.TheVariants.{UnknownTask, SheetFull, Durations, Circle, NoLink, DeadlineRange, OtherKind, BookRule, StepsFull, NoOrder, NotALine, BadSum, BadFrame, Memory, Placed, NotReady, NoOrderSo}
use Rattle.file.specs.Readings.{Reading}
use Rattle.file.specs.declared.frame.Frame.{Frame}
use Rattle.file.specs.declared.frame.Frame.TheVariants.{Task, Link, Hard, Ramp, Soft, Step, Weight}
use Rattle.known.specs.Files.{FileTests, fields, is_frame, is_noted, is_refused, same_frame}

-- ---- frames of the same fields, and refusals of the same number

abbrev framed : List ℕ → Frame
framed fs =
    let at = slice_index_or fs in
    if eqb (at 0 0) 1 then Task (at 1 0) (at 2 0)
    else (if eqb (at 0 0) 2 then Link (at 1 0) (at 2 0)
    else (if eqb (at 0 0) 3 then Hard (at 1 0) (at 2 0)
    else (if eqb (at 0 0) 4 then Ramp (at 1 0) (at 2 0) (at 3 0) (at 4 0)
    else (if eqb (at 0 0) 5 then Soft (at 1 0)
    else (if eqb (at 0 0) 6 then Step (at 1 0) (at 2 0) (at 3 0)
    else Weight (at 1 0) (at 2 0))))))

frame-back : (f : Frame) → framed (fields f) ≡ f
frame-back (Task min max) = refl
frame-back (Link a b) = refl
frame-back (Hard t deadline) = refl
frame-back (Ramp t peak knee foot) = refl
frame-back (Soft t) = refl
frame-back (Step t until worth) = refl
frame-back (Weight t weight) = refl

same-frame : (f g : Frame) → Decides (same_frame f g) (f ≡ g)
same-frame f g = Decides-like _ (λ e. sym (frame-back f) ∙ ap framed e ∙ frame-back g) (ap fields) (bytes_eq-Decides (fields f) (fields g))

abbrev numbered : ℕ → Refusal
numbered n = slice_index_or (UnknownTask ∷ SheetFull ∷ Durations ∷ Circle ∷ NoLink ∷ DeadlineRange ∷ OtherKind ∷ BookRule ∷ StepsFull ∷ NoOrder ∷ NotALine ∷ BadSum ∷ BadFrame ∷ Memory ∷ Placed ∷ NotReady ∷ NoOrderSo ∷ []) (n - 1) UnknownTask

refusal-back : (e : Refusal) → numbered (number e) ≡ e
refusal-back UnknownTask = refl
refusal-back SheetFull = refl
refusal-back Durations = refl
refusal-back Circle = refl
refusal-back NoLink = refl
refusal-back DeadlineRange = refl
refusal-back OtherKind = refl
refusal-back BookRule = refl
refusal-back StepsFull = refl
refusal-back NoOrder = refl
refusal-back NotALine = refl
refusal-back BadSum = refl
refusal-back BadFrame = refl
refusal-back Memory = refl
refusal-back Placed = refl
refusal-back NotReady = refl
refusal-back NoOrderSo = refl

same-refusal : (e f : Refusal) → number e ≡ number f → e ≡ f
same-refusal e f h = sym (refusal-back e) ∙ ap numbered h ∙ refusal-back f

same-note : (m n : Option (List ℕ)) → Decides (option_eq bytes_eq m n) (m ≡ n)
same-note None None = (λ h. refl, λ e. refl)
same-note None (Some n) = (λ h. absurd (cc), λ e. absurd (cc))
same-note (Some m) None = (λ h. absurd (cc), λ e. absurd (cc))
same-note (Some m) (Some n) = Decides-like _ (ap Some) (λ e. cc) (bytes_eq-Decides m n)

-- ---- what is read

frame : (f : Frame) (r : Result Reading Refusal) → Decides (is_frame f r) ((note : Option (List ℕ)) × (r ≡ Ok (record { frame = f; note = note })))
frame f (Ok r) =
    Decides-like _
    (λ e. (r.note, ap (λ x. Ok (record { frame = x; note = r.note })) e))
    (λ h. let e = h.1 in let same : r ≡ record { frame = f; note = h.0 } = cc in ap (λ x. x.frame) same)
    (same-frame r.frame f)
frame f (Err e) = (λ h. absurd (cc), λ h. let e = h.1 in absurd (cc))

refused : (e : Refusal) (r : Result Reading Refusal) → Decides (is_refused e r) (r ≡ Err e)
refused e (Ok r) = (λ h. let some = number-pos e in let none = (Decides-eqb 0 (number e)).0 h in absurd (omega arith), λ h. absurd (cc))
refused e (Err d) = Decides-like _ (λ h. ap Err (same-refusal d e h)) (λ h. let same : d ≡ e = cc in ap number same) (Decides-eqb (number d) (number e))

noted : (note : Option (List ℕ)) (r : Result Reading Refusal) → Decides (is_noted note r) ((f : Frame) × (r ≡ Ok (record { frame = f; note = note })))
noted n (Ok r) =
    Decides-like _
    (λ e. (r.frame, ap (λ x. Ok (record { frame = r.frame; note = x })) e))
    (λ h. let e = h.1 in let same : r ≡ record { frame = h.0; note = n } = cc in ap (λ x. x.note) same)
    (same-note r.note n)
noted n (Err e) = (λ h. absurd (cc), λ h. let e = h.1 in absurd (cc))

pub deciding : FileTests
deciding = record { frame = frame; refused = refused; noted = noted }
