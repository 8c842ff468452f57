-- What is stated of plan's answer follows from what plan promises. Assumes nothing.
use Rattle.std.proofs.Common.{◌≡◌, ◌↔◌, ◌⊎◌, refl, inl, inr, ⊎_elim, List, ℕ, ◌^◌, arith, length, Result, Ok, Err, IsOk}
use Rattle.std.proofs.lemmas.Bool.{cases_lt}
use Rattle.std.proofs.lemmas.Grind.{common_steps}
use Rattle.book.specs.Worths.{Meaning}
use Rattle.common.proofs.Refusals.{number-pos}
use Rattle.common.specs.declared.refusal.Refusal.{Refusal}
use Rattle.plan.proofs.Fitting.{fits-tells}
use Rattle.plan.specs.BestOrder.{BestOrder}
use Rattle.plan.specs.Planned.{Planned, Suffices}
use Rattle.sheet.proofs.Rules.{Sound}
use Rattle.sheet.specs.Margins.{Fits}
use Rattle.sheet.specs.Tables.{Table}

module _ (m : Meaning) (t : Table) (cells cells' order order' : List ℕ) where
  pub best-order : (r : Result ℕ Refusal) → Planned m t cells cells' order order' r → BestOrder m t cells order order' r
  best-order (Ok sum) p =
      let a = p.answer in
      record {
        lawful = a.best.lawful;
        sums = a.totals;
        best = λ q law other. grind (arith, common_steps, a.best.first q law other, a.totals);
        none = λ enough. (λ ten. (p.none.0 ten).1, λ no. p.none.1 (enough, no));
        some = λ enough. inr refl;
        earns = λ run within. grind (arith, a.runs.earn run within, a.totals);
        meets = a.runs.meet;
      }
  best-order (Err e) p =
      record {
        lawful = tt;
        sums = tt;
        best = tt;
        none = λ enough. (λ ten. (p.none.0 ten).1, λ no. p.none.1 (enough, no));
        some = λ enough. ⊎_elim inr (⊎_elim inl (λ short. absurd (p.memory.0 short enough))) p.only;
        earns = tt;
        meets = tt;
      }

  enough-or : (Suffices t cells order → ⊥) ⊎ Suffices t cells order
  enough-or =
      ⊎_elim
      (λ few. inl (λ enough. absurd (omega (arith, enough.0))))
      (λ cells. ⊎_elim (λ short. inl (λ enough. absurd (omega (arith, enough.1)))) (λ bytes. inr (cells, bytes)) (cases_lt (length order) (length t)))
      (cases_lt (length cells) (2 ^ length t))

  -- a total is answered where memory suffices and some order is lawful, which margins decide
  pub total-where : (r : Result ℕ Refusal) → Sound t → Planned m t cells cells' order order' r → IsOk r ↔ (Suffices t cells order × Fits t)
  total-where (Ok sum) sound p = (
    λ ok. (⊎_elim (λ short. absurd (let z = p.memory.1 short in omega arith)) (λ enough. enough) enough-or, (fits-tells t sound).1 (_, p.answer.best.lawful)),
    λ both. refl,
  )
  total-where (Err e) sound p = (
    λ ok. absurd (cc),
    λ both.
        let some = (fits-tells t sound).0 both.1 in
        absurd
        (⊎_elim
        (λ zero. let z = number-pos e in omega arith)
        (⊎_elim (λ ten. (p.none.0 ten).1 some.0 some.1) (λ short. p.memory.0 short both.0))
        p.only),
  )

  -- nor does it matter which memory of this length it was
  pub lengths : (r : Result ℕ Refusal) (c o : List ℕ) → length cells ≡ length c → length order ≡ length o → BestOrder m t cells order order' r → BestOrder m t c o order' r
  lengths r c o ec eo b =
      record {
        lawful = b.lawful;
        sums = b.sums;
        best = b.best;
        none = λ enough. b.none (so enough);
        some = λ enough. b.some (so enough);
        earns = b.earns;
        meets = b.meets;
      }
    where
      so : Suffices t c o → Suffices t cells order
      so enough = (omega (arith, enough.0, ec), omega (arith, enough.1, eo))
