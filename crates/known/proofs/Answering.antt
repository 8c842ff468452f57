-- The test of the lines that answer files of specs/Answers.antt decides what the definitions say. Assumes nothing.
use Rattle.std.proofs.Common.{◌≡◌, refl, subst, ◌⊎◌, inl, inr, ⊎_elim, List, ℕ, ◌≤◌, ◌<◌, ◌^◌, arith, length}
use Rattle.std.proofs.lemmas.Bool.{le-leb, leb-true}
use Rattle.std.proofs.lemmas.Bool.Decides.{Decides-and, Decides-like, Decides-ltb, Decides-or}
use Rattle.std.proofs.lemmas.Slice.Eq.{bytes_eq-Decides}
use Rattle.std.specs.Prelude.{Decides}
use Rattle.answer.specs.Answers.{Shows, cells, fault_bytes, most, none, order, order_bytes}
use Rattle.book.specs.Standard.{worth_of}
use Rattle.book.specs.Worths.{Sound as Sensible}
use Rattle.common.specs.declared.refusal.Refusal.{Refusal}
use Rattle.common.specs.declared.refusal.Refusal.TheVariants.{Memory, NoOrder}
use Rattle.file.specs.Faults.{figures}
use Rattle.file.specs.Frames.{bytes_line}
use Rattle.file.specs.Loads.{Made}
use Rattle.file.specs.declared.fault.Fault.TheVariants.{Plan}
use Rattle.plan.proofs.Tests.{best, none as none-lawful, one}
use Rattle.known.specs.Answers.{AnswerTests, is_shown, total_of}
use Rattle.plan.proofs.Orders.{lawful-to}
use Rattle.plan.proofs.Runs.{earned-small, runs-of}
use Rattle.plan.proofs.Walks.{length-left}
use Rattle.plan.specs.Orders.{Continuation, NoLawful, Order, expected}
use Rattle.plan.specs.Totals.{Best}
use Rattle.sheet.proofs.Rules.{Sound}

module _ (m : Made) (r : Sound m.tasks) (sound : Sensible (worth_of m.worths)) (line : List ℕ) where
  abbrev refusal : Refusal → List ℕ
  refusal e = bytes_line (fault_bytes (figures (Plan e)))

  -- the line tells the best order
  abbrev Told : Order → Type 0
  Told o = (line ≡ bytes_line (order_bytes o (total_of m o))) × (Best (worth_of m.worths) m.tasks o × (total_of m o ≡ total_of m o))

  abbrev Parts : Type 0
  Parts =
      ((most < length m.tasks) × (line ≡ refusal Memory))
      ⊎ ((length m.tasks ≤ most) × ((NoLawful m.tasks × (line ≡ refusal NoOrder)) ⊎ ((o : Order) × Continuation m.tasks 0 o × Told o)))

  abbrev Shown : Type 0
  Shown = (bytes : List ℕ) × Shows m bytes × (line ≡ bytes_line bytes)

  told-shown : length m.tasks ≤ most → (o : Order) → Continuation m.tasks 0 o → Told o → Shown
  told-shown few o c told =
      let first = told.1.0 in
      let count : length o ≤ length m.tasks = omega (arith, length-left m.tasks 0 o c) in
      let small : total_of m o < 2 ^ 24 = omega (arith, earned-small (worth_of m.worths) sound m.tasks (expected m.tasks) 0 o, count, few) in
      (order_bytes o (total_of m o), order o (total_of m o) few first refl (runs-of (worth_of m.worths) sound m.tasks o first.lawful) small, told.0)

  parts-shown : Parts → Shown
  parts-shown =
      ⊎_elim
      (λ x. (fault_bytes (figures (Plan Memory)), cells x.0, x.1))
      (λ x. ⊎_elim (λ y. (fault_bytes (figures (Plan NoOrder)), none x.0 y.0, y.1)) (λ y. told-shown x.0 y.0 y.1 y.2) x.1)

  shown-parts : (bytes : List ℕ) → Shows m bytes → line ≡ bytes_line bytes → Parts
  shown-parts bytes (cells many) e = inl (many, e)
  shown-parts bytes (none few lawless) e = inr (few, inl (lawless, e))
  shown-parts bytes (order o v few first totals runs small) e =
      inr (few, inr (o, lawful-to m.tasks o first.lawful, (subst (λ n. line ≡ bytes_line (order_bytes o n)) totals e, (first, refl))))

  shown : Decides (is_shown m line) Shown
  shown =
      Decides-like _ parts-shown (λ x. shown-parts x.0 x.1 x.2)
      (Decides-or _ _
      (Decides-and _ _ (Decides-ltb most (length m.tasks)) (bytes_eq-Decides line (refusal Memory)))
      (Decides-and _ _ (leb-true (length m.tasks) most, le-leb (length m.tasks) most)
      (Decides-or _ _
      (Decides-and _ _ (none-lawful m.tasks r) (bytes_eq-Decides line (refusal NoOrder)))
      (one m.tasks r 0 _ _ (λ o. Decides-and _ _ (bytes_eq-Decides line _) (best m.tasks r (worth_of m.worths) o (total_of m o)))))))

pub deciding : (m : Made) → Sound m.tasks → Sensible (worth_of m.worths) → AnswerTests m
deciding m r sound = record { shown = shown m r sound }
