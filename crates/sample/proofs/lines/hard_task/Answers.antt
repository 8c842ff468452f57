use Rattle.std.proofs.Common.{◌≡◌, ◌∙◌, ap, subst, ℕ, List, Some, Result, Ok, Err, arith, option_map}
use Rattle.std.proofs.lemmas.Grind.{common_steps}
use Rattle.std.specs.Result.{result_map_both, result_ok}
use Rattle.common.specs.declared.refusal.Refusal.{Refusal}
use Rattle.file.specs.Frames.{Fits, encoded}
use Rattle.file.specs.Lines.{IsLine}
use Rattle.file.specs.Readings.{Reading, Said, reading, reading_now}
use Rattle.file.specs.Again.{ReadBack}
use Rattle.file.specs.declared.frame.Frame.TheVariants.{Hard}
use Rattle.file.specs.declared.reading.Reading.{Reading as Slices}
use Rattle.sample.specs.Lines.{HardLine}
use Rattle.sample.proofs.lines.hard_task.Goals as goal

abbrev answer : Result Slices Refusal → Result Reading Refusal
answer = result_map_both reading_now (λ e. e)

-- a line is of the frame that it is read as
hard : (line : List ℕ) (r : Result Slices Refusal) (x : Slices) (k d : ℕ) → Said line (answer r) → Some x ≡ result_ok r → x.frame ≡ Hard k d → HardLine line k d
unfolding Said
hard line (Ok y) x k d says is f =
    let e : y.frame ≡ Hard k d = grind (arith, common_steps) in
    record { note = (reading_now y).note; fits = subst Fits e says.0; made = subst (λ f. IsLine line (encoded f) (reading_now y).note) e says.1 }
hard line (Err e) x k d says is f = absurd (grind (arith, common_steps))

-- and a line of a frame is read as that
same : (r : Result Slices Refusal) (y : Reading) → answer r ≡ Ok y → option_map (λ x. x.frame) (result_ok r) ≡ Some y.frame
same (Ok x) y is = grind (arith, common_steps)
same (Err e) y is = absurd (grind (arith, common_steps))

read : (line : List ℕ) (r : Result Slices Refusal) (k d : ℕ) → answer r ≡ reading line → ReadBack → HardLine line k d → option_map (λ x. x.frame) (result_ok r) ≡ Some (Hard k d)
read line r k d found back h = same r _ (found ∙ ap reading h.made.made ∙ back (Hard k d) h.note h.fits h.made.prints)

pub returns-in-Hard : goal.returns-in-Hard
returns-in-Hard c = λ k d. (
  (λ e. hard _ _ _ k d c.read.ensures.says c.in_ok-t.ensures.value (grind (arith, common_steps))),
  (λ h. let r = read _ _ k d c.read.ensures.found c.lines_stand.ensures.read_back h in grind (arith, common_steps)),
)

pub returns-in_default : goal.returns-in_default
returns-in_default c = λ k d. (
  (λ e. absurd (grind (arith, common_steps))),
  (λ h. let r = read _ _ k d c.read.ensures.found c.lines_stand.ensures.read_back h in
      absurd (c.in_default.not-Hard k d (grind (arith, common_steps)))),
)

pub returns-in_err-t : goal.returns-in_err-t
returns-in_err-t c = λ k d. (
  (λ e. absurd (grind (arith, common_steps))),
  (λ h. let r = read _ _ k d c.read.ensures.found c.lines_stand.ensures.read_back h in absurd (grind (arith, common_steps))),
)
