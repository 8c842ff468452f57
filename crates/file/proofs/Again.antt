-- What is saved is read again, line by line. Assumes nothing.
use Rattle.std.proofs.Common.{◌≡◌, ◌==◌, refl, sym, ap, ◌∙◌, List, [], ◌∷◌, ◌++◌, Bool, true, false, ℕ, zero, suc, ◌/◌, ◌%◌, ◌^◌, ◌<◌, ◌≤◌, Option, Some, None, Ok, All, arith, length, map, nat_lt}
use Rattle.std.proofs.lemmas.Grind.{common_steps}
use Rattle.std.proofs.lemmas.List.{append_assoc}
use Rattle.std.proofs.lemmas.List.Elements.{All-append, All-cons, recursion_from_All}
use Rattle.std.specs.List.{AllByRecursion}
use Rattle.book.proofs.Steps.{steps_kept}
use Rattle.book.specs.Ramps.{keeps_rule, ramp_of}
use Rattle.book.specs.Standard.{Contents, contents}
use Rattle.book.specs.Steps.{stepped, steps_of}
use Rattle.book.specs.Weights.{weight_of}
use Rattle.book.specs.declared.ramp.Ramp.{Ramp}
use Rattle.book.specs.declared.standard.StandardBook.{StandardBook}
use Rattle.book.specs.declared.step.Step.{Step}
use Rattle.file.specs.Frames.{Fits, Frame, encoded, frame_line, task, link, hard, ramp, soft, weight}
use Rattle.file.specs.Again.{SavedReads}
use Rattle.file.specs.Lines.{digit, pairs, pieces}
use Rattle.file.specs.Readings.{reading}
use Rattle.file.specs.Saved.{each, frames, hard_frame, if_so, if_some, link_frame, links_from, ramp_frame, soft_frame, step_frame, step_frames, task_frame, text_of, weight_frame}
use Rattle.file.proofs.Sayings.{read_back}
use Rattle.sheet.proofs.Tables.{few-listed}
use Rattle.sheet.specs.Links.{linked}
use Rattle.sheet.specs.Margins.{deadline_of}
use Rattle.sheet.specs.Rules.{InRange, Lasts}
use Rattle.sheet.specs.Sheets.{table}
use Rattle.sheet.specs.Tables.{Table, blank, is_soft, task_of}
use Rattle.sheet.specs.declared.sheet.Sheet.{Sheet}
use Rattle.sheet.specs.declared.table.Kind.{Kind}
use Rattle.sheet.specs.declared.table.Kind.TheVariants.{Plain, Soft, Hard}

-- ---- the pieces of a text are its lines

no_digit_cuts : (n : ℕ) → (digit n == 10) ≡ false
no_digit_cuts n = grind (arith, common_steps)

pieces-pairs : (bytes behind : List ℕ) → pieces (pairs bytes ++ (10 ∷ behind)) ≡ (pairs bytes ++ 10 ∷ []) ∷ pieces behind
pieces-pairs [] behind = refl
pieces-pairs (b ∷ bytes) behind = rw (no_digit_cuts (b / 16), no_digit_cuts (b % 16), pieces-pairs bytes behind) refl

pieces-text : (fs : List Frame) → pieces (text_of fs) ≡ map frame_line fs
unfolding text_of
pieces-text [] = refl
pieces-text (f ∷ fs) =
    ap pieces (append_assoc (pairs (encoded f)) (10 ∷ []) (text_of fs))
    ∙ pieces-pairs (encoded f) (text_of fs) ∙ ap (λ ls. frame_line f ∷ ls) (pieces-text fs)

read-lines : (fs : List Frame) → AllByRecursion Fits fs → map reading (map frame_line fs) ≡ map (λ f. Ok (record { frame = f; note = None })) fs
read-lines [] fit = refl
read-lines (f ∷ fs) fit = rw (read_back f None fit.0 tt, read-lines fs fit.1) refl

-- ---- what is saved fits

none : All Fits []
none k d lt = absurd (omega (arith, lt))

one : (f : Frame) → Fits f → All Fits (f ∷ [])
one f fits = All-cons Fits f [] fits none

so : (b : Bool) (f : Frame) → (b ≡ true → Fits f) → All Fits (if_so b f)
so true f fits = one f (fits refl)
so false f fits = none

some : {A : Type 0} (g : A → Frame) (o : Option A) → ((x : A) → o ≡ Some x → Fits (g x)) → All Fits (if_some g o)
some g None fits = none
some g (Some x) fits = one (g x) (fits x refl)

each-fits : (n : ℕ) (f : ℕ → List Frame) → ((k : ℕ) → k < n → All Fits (f k)) → All Fits (each n f)
unfolding each
each-fits zero f fit = none
each-fits (suc n) f fit = All-append Fits (each n f) (f n) (each-fits n f (λ k lt. fit k (omega (arith, lt)))) (fit n (omega arith))

ramp_small : (r : Ramp) → keeps_rule (Some r) ≡ true → (r.peak < 2 ^ 24) × (r.knee < 2 ^ 24) × (r.foot < 2 ^ 24)
ramp_small r keeps = (grind (arith, common_steps), grind (arith, common_steps), grind (arith, common_steps))

hard_kind : (kind : Kind) (d : ℕ) → deadline_of kind ≡ Some d → kind ≡ Hard d
hard_kind Plain d is = absurd (grind (arith, is))
hard_kind Soft d is = absurd (grind (arith, is))
hard_kind (Hard e) d is = cc

steps-fit : (k : ℕ) (ss : List Step) → k < 16 → stepped ss ≡ true → All Fits (map (step_frame k) ss)
unfolding stepped
steps-fit k [] lt are = none
steps-fit k (s ∷ []) lt are = one (step_frame k s) (omega (arith, lt), grind (arith, common_steps), grind (arith, common_steps))
steps-fit k (s ∷ x ∷ ss) lt are = All-cons Fits (step_frame k s) (map (step_frame k) (x ∷ ss)) (omega (arith, lt), grind (arith, common_steps), grind (arith, common_steps)) (steps-fit k (x ∷ ss) lt (grind (arith, common_steps)))

module _ (t : Table) (lasting : All Lasts t) (due : All InRange t) (few : length t ≤ 16)
    (b : Contents) (ramps : (k : ℕ) → keeps_rule (ramp_of b.ramps k) ≡ true) (steps : (k : ℕ) → stepped (steps_of b.steps k) ≡ true) (weights : (k : ℕ) → weight_of b.weights k ≤ 16) where
  task_fits : (k : ℕ) → k < length t → All Fits (task_frame t k)
  task_fits k lt = let l = lasting k blank lt in one (task (task_of t k).min (task_of t k).max) (omega (arith, l.1, l.2), omega (arith, l.2))

  links_fit : (k : ℕ) → k < length t → All Fits (links_from t k)
  links_fit k lt = each-fits (length t) (link_frame t k) (λ x low. so (linked t k x) (link k x) (λ is. (omega (arith, lt, few), omega (arith, low, few))))

  hard_fits : (k : ℕ) → k < length t → All Fits (hard_frame t k)
  hard_fits k lt = some (hard k) (deadline_of (task_of t k).kind) (λ d is. let r = due k blank lt d (hard_kind (task_of t k).kind d is) in (omega (arith, lt, few), omega (arith, r.1)))

  soft_fits : (k : ℕ) → k < length t → All Fits (soft_frame t k)
  soft_fits k lt = so (is_soft (task_of t k).kind) (soft k) (λ is. omega (arith, lt, few))

  ramp_fits : (k : ℕ) → k < 16 → All Fits (ramp_frame b k)
  ramp_fits k lt = some (λ r. ramp k r.peak r.knee r.foot) (ramp_of b.ramps k) (λ r is. let fit = ramp_small r (ap keeps_rule (sym is) ∙ ramps k) in (omega (arith, lt), fit.0, fit.1, fit.2))

  weight_fits : (k : ℕ) → k < 16 → All Fits (weight_frame b k)
  weight_fits k lt = so (nat_lt 1 (weight_of b.weights k)) (weight k (weight_of b.weights k)) (λ is. (omega (arith, lt), omega (arith, weights k)))

  frames_fit : All Fits (frames t b)
  frames_fit =
      All-append Fits _ _ (All-append Fits _ _ (All-append Fits _ _ (All-append Fits _ _ (All-append Fits _ _ (All-append Fits _ _
      (each-fits (length t) (task_frame t) task_fits) (each-fits (length t) (links_from t) links_fit))
      (each-fits (length t) (hard_frame t) hard_fits)) (each-fits 16 (ramp_frame b) ramp_fits))
      (each-fits (length t) (soft_frame t) soft_fits)) (each-fits 16 (step_frames b) (λ k lt. steps-fit k (steps_of b.steps k) lt (steps k))))
      (each-fits 16 (weight_frame b) weight_fits)

pub saved_read : (s : Sheet) (x : StandardBook) → SavedReads (table s) (contents x)
saved_read s x =
    let t = table s in
    let b = contents x in
    let fit = frames_fit t s.keeps.lasting s.keeps.due (few-listed s.table) b x.layers.inner.first.sound (steps_kept x.layers.inner.second.steps) x.layers.weights.light in
    ap (λ ps. map reading ps) (pieces-text (frames t b)) ∙ read-lines (frames t b) (recursion_from_All Fits (frames t b) fit)
