-- Two answers of plan for one table, with as much memory each, are told alike. Assumes nothing.
use Rattle.std.proofs.Common.{◌≡◌, sym, ap, ap₂, ◌∙◌, subst, ⊎_elim, List, ℕ, ◌≤◌, ◌^◌, arith, length, take, Result, Ok, Err}
use Rattle.answer.specs.Answers.{fault_bytes, order_bytes, plan_bytes}
use Rattle.book.specs.Worths.{Meaning}
use Rattle.common.proofs.Refusals.{number-pos}
use Rattle.common.specs.Refusals.{number}
use Rattle.common.specs.declared.refusal.Refusal.{Refusal}
use Rattle.common.specs.declared.refusal.Refusal.TheVariants.{Memory, NoOrder}
use Rattle.file.specs.Faults.{told}
use Rattle.plan.proofs.Walks.{best-one}
use Rattle.plan.specs.Planned.{Planned, Suffices}
use Rattle.plan.specs.Totals.{total}
use Rattle.sheet.specs.Tables.{Table}

suffices-too : (t : Table) (cs ds os ps : List ℕ) → length cs ≡ length ds → length os ≡ length ps → Suffices t cs os → Suffices t ds ps
suffices-too t cs ds os ps cells bytes s = (subst (λ n. 2 ^ length t ≤ n) cells s.0, subst (λ n. length t ≤ n) bytes s.1)

module _ (m : Meaning) (t : Table) (cs cs' ds ds' os os' ps ps' : List ℕ) (cells : length cs ≡ length ds) (bytes : length os ≡ length ps) where
  lacks : (f : Refusal) (v : ℕ) → Planned m t cs cs' os os' (Ok v) → Planned m t ds ds' ps ps' (Err f) → ⊥
  lacks f v p q =
      ⊎_elim (λ is. omega (arith, is, number-pos f))
      (⊎_elim
      (λ ten. (q.none.0 ten).1 (take (length t) os') p.answer.best.lawful)
      (λ short. omega (arith, p.memory.1 (λ s. q.memory.0 short (suffices-too t cs ds os ps cells bytes s)), number-pos Memory)))
      q.only

  -- where the one finds no order, the other does not lack memory
  enough : (e f : Refusal) → Planned m t cs cs' os os' (Err e) → Planned m t ds ds' ps ps' (Err f) → number e ≡ number NoOrder → number f ≡ number Memory → ⊥
  enough e f p q ten short = q.memory.0 short (suffices-too t cs ds os ps cells bytes (p.none.0 ten).0)

module _ (m : Meaning) (t : Table) (cs cs' ds ds' os os' ps ps' : List ℕ) (cells : length cs ≡ length ds) (bytes : length os ≡ length ps) where
  numbers : (e f : Refusal) → Planned m t cs cs' os os' (Err e) → Planned m t ds ds' ps ps' (Err f) → number e ≡ number f
  numbers e f p q =
      ⊎_elim (λ is. absurd (omega (arith, is, number-pos e)))
      (⊎_elim
      (λ ten. ⊎_elim (λ is. absurd (omega (arith, is, number-pos f))) (⊎_elim (λ ten'. ten ∙ sym ten') (λ short. absurd (enough m t cs cs' ds ds' os os' ps ps' cells bytes e f p q ten short))) q.only)
      (λ short. ⊎_elim (λ is. absurd (omega (arith, is, number-pos f))) (⊎_elim (λ ten. absurd (enough m t ds ds' cs cs' ps ps' os os' (sym cells) (sym bytes) f e q p ten short)) (λ short'. short ∙ sym short')) q.only))
      p.only

  pub told-alike : (r s : Result ℕ Refusal) → Planned m t cs cs' os os' r → Planned m t ds ds' ps ps' s → plan_bytes t os' r ≡ plan_bytes t ps' s
  told-alike (Ok v) (Ok w) p q =
      let same = best-one m t (take (length t) os') (take (length t) ps') p.answer.best q.answer.best in
      ap₂ order_bytes same (p.answer.totals ∙ ap (total m t) same ∙ sym q.answer.totals)
  told-alike (Ok v) (Err f) p q = absurd (lacks m t cs cs' ds ds' os os' ps ps' cells bytes f v p q)
  told-alike (Err e) (Ok w) p q = absurd (lacks m t ds ds' cs cs' ps ps' os os' (sym cells) (sym bytes) e w q p)
  told-alike (Err e) (Err f) p q = ap (λ n. fault_bytes (told 5 n 0)) (numbers e f p q)
