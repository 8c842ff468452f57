-- The greatest that is left to earn: by the next task, and of all. Assumes nothing.
use Rattle.std.proofs.Common.{◌≡◌, ◌↔◌, refl, sym, ap, subst, true, false, ◌⊎◌, inl, inr, ⊎_elim, List, [], ◌∷◌, ℕ, ◌+◌, ◌-◌, ◌^◌, ◌<◌, max, arith, length, get_or, get_or-set_same, get_or-set_other, set}
use Rattle.std.proofs.lemmas.Bool.{both_ways, cases_eq, cases_lt}
use Rattle.std.proofs.lemmas.Bool.Decides.{nat_tests}
use Rattle.book.specs.Worths.{Meaning}
use Rattle.common.proofs.Sets.{adding-below, adding-more, all-members, has-all, sum-adding}
use Rattle.common.specs.Sets.{adding, has}
use Rattle.plan.specs.Cells.{Cell, Greatest, left}
use Rattle.plan.specs.Next.{Begins, FilledFrom, May, Next, Upto}
use Rattle.plan.specs.Orders.{Continuation, NoLawful, Order, expected}
use Rattle.plan.specs.Totals.{earned, earns}
use Rattle.plan.proofs.Orders.{end-all, ended, goes-on, lawful-from, lawful-to, went-may, went-rest}
use Rattle.sheet.specs.Tables.{Table, expected_of, load_of, task_of}

-- nothing passes
none-passes : (P : Order → Type 0) (f : Order → ℕ) → ((o : Order) → P o → ⊥) → Greatest P f 0
none-passes P f never = record { bound = λ o p. absurd (never o p); met = inl refl }

module _ (m : Meaning) (t : Table) where
  -- ---- what a cell tells

  pub continues : (s v : ℕ) → Cell m t s v → (0 < v) ↔ ((o : Order) × Continuation t s o)
  continues s v c = (λ pos. ⊎_elim (λ z. absurd (omega arith)) (λ r. (r.0, r.1)) c.met, λ r. let b = c.bound r.0 r.1 in omega arith)

  pub lawful-left : (v : ℕ) → Cell m t 0 v → (v ≡ 0) ↔ NoLawful t
  lawful-left v c = (
    λ e o l. let b = c.bound o (lawful-to t o l) in omega arith,
    λ never. ⊎_elim (λ z. z) (λ r. absurd (never r.0 (lawful-from t r.0 r.1))) c.met,
  )

  -- ---- one next task

  pub next-may-not : (s k : ℕ) → (May t s k → ⊥) → Next m t s k 0
  next-may-not s k never = none-passes (λ o. Continuation t s (k ∷ o)) (λ o. left m t s (k ∷ o)) (λ o c. never (went-may t s k o c))

  pub next-stuck : (s k : ℕ) → Cell m t (adding s k) 0 → Next m t s k 0
  next-stuck s k cell =
      none-passes (λ o. Continuation t s (k ∷ o)) (λ o. left m t s (k ∷ o)) (λ o c. let b = cell.bound o (went-rest t s k o c) in omega arith)

  -- what the next task earns, and then the rest
  pub left-next : (s k : ℕ) (o : Order) → k < length t → has s k ≡ false → left m t s (k ∷ o) ≡ earns m t k (load_of expected_of t (has s) + expected t k) + left m t (adding s k) o
  left-next s k o lt out =
      ap
      (λ a. earns m t k (load_of expected_of t (has s) + expected t k) + earned m t (expected t) a o)
      (sym (sum-adding (λ j. expected_of (task_of t j)) s k (length t) out lt))

  pub next-goes : (s k c w : ℕ) → May t s k → Cell m t (adding s k) c → 0 < c → w ≡ earns m t k (load_of expected_of t (has s) + expected t k) → Next m t s k (c + w)
  next-goes s k c w may cell pos e =
      record {
        bound = λ o g. let b = cell.bound o (went-rest t s k o g) in omega (arith, left-next s k o may.task may.out);
        met = ⊎_elim (λ z. absurd (omega arith)) (λ r. inr (r.0, goes-on t s k r.0 may r.1, omega (arith, r.2, left-next s k r.0 may.task may.out))) cell.met;
      }

  pub cell-next : (s k : ℕ) (cells : List ℕ) → s < 2 ^ length t → May t s k → FilledFrom m t (s + 1) cells → Cell m t (adding s k) (get_or cells (adding s k) 0)
  cell-next s k cells h may filled =
      filled (adding s k) (omega (arith, adding-more s k may.out)) (adding-below (length t) s k h may.task)

  -- ---- the next tasks below n

  pub upto-none : (s : ℕ) → Upto m t s 0 0
  upto-none s = none-passes (λ o. Begins 0 o × Continuation t s o) (left m t s) never
    where
      never : (o : Order) → Begins 0 o × Continuation t s o → ⊥
      never [] q = q.0
      never (k ∷ o) q = let z = q.0 in omega arith

  pub upto-more : (s n a b v : ℕ) → Upto m t s n a → Next m t s n b → v ≡ max a b → Upto m t s (n + 1) v
  upto-more s n a b v upto next e = record { bound = bound; met = met upto.met next.met }
    where
      bound : (o : Order) → Begins (n + 1) o × Continuation t s o → left m t s o < v
      bound [] q = absurd (q.0)
      bound (k ∷ o) q =
          ⊎_elim
          (λ same. let b' = next.bound o (subst (λ x. Continuation t s (x ∷ o)) same q.1) in
          let eq = ap (λ x. left m t s (x ∷ o)) same in omega arith)
          (λ ne. let low = q.0 in let b' = upto.bound (k ∷ o) (omega arith, q.1) in omega arith)
          (cases_eq k n)

      early : (o : Order) → Begins n o → Begins (n + 1) o
      early [] h = h
      early (k ∷ o) h = omega arith

      met : (a ≡ 0) ⊎ ((o : Order) × (Begins n o × Continuation t s o) × (a ≡ left m t s o + 1)) → (b ≡ 0) ⊎ ((o : Order) × Continuation t s (n ∷ o) × (b ≡ left m t s (n ∷ o) + 1)) →
          (v ≡ 0) ⊎ ((o : Order) × (Begins (n + 1) o × Continuation t s o) × (v ≡ left m t s o + 1))
      met x y =
          ⊎_elim
          (λ lt. ⊎_elim (λ z. absurd (omega arith)) (λ r. inr (n ∷ r.0, (omega arith, r.1), omega (arith, r.2))) y)
          (λ ge. ⊎_elim (λ z. inl (omega arith)) (λ r. inr (r.0, (early r.0 r.1.0, r.1.1), omega (arith, r.2))) x)
          (cases_lt a b)

  -- ---- a cell

  pub cell-full : (s : ℕ) → s ≡ 2 ^ length t - 1 → Cell m t s 1
  cell-full s e = record { bound = bound; met = inr ([], ended t s all, refl) }
    where
      all : (k : ℕ) → k < length t → has s k ≡ true
      all k lt = rw e (let h = has-all (length t) k in grind (arith, nat_tests))

      bound : (o : Order) → Continuation t s o → left m t s o < 1
      bound [] c = omega arith
      bound (k ∷ o) c = let may = went-may t s k o c in absurd (both_ways _ may.out (all k may.task))

  begins-below : (s : ℕ) (o : Order) → s < 2 ^ length t → s + 1 < 2 ^ length t → Continuation t s o → Begins (length t) o
  begins-below s [] h less c = let e = all-members (length t) s h (end-all t s c) in absurd (omega arith)
  begins-below s (k ∷ o) h less c = (went-may t s k o c).task

  pub cell-upto : (s n v : ℕ) → s + 1 < 2 ^ length t → n ≡ length t → Upto m t s n v → Cell m t s v
  cell-upto s n v less all upto =
      record {
        bound = λ o c. upto.bound o (rw all (begins-below s o (omega arith) less c), c);
        met = ⊎_elim inl (λ r. inr (r.0, r.1.1, r.2)) upto.met;
      }

  -- one cell more, from the top
  pub filled-more : (n v : ℕ) (cells : List ℕ) → n < length cells → Cell m t n v → FilledFrom m t (n + 1) cells → FilledFrom m t n (set cells n v)
  filled-more n v cells short cell filled s low high =
      ⊎_elim
      (λ e. rw e (rw (get_or-set_same cells n v 0 short) cell))
      (λ ne. rw (get_or-set_other cells n s v 0 ne) (filled s (omega arith) high))
      (cases_eq s n)

  -- the first of them
  pub filled-full : (i : ℕ) (cells : List ℕ) → i ≡ 2 ^ length t - 1 → i < length cells → FilledFrom m t i (set cells i 1)
  filled-full i cells e short s low high =
      let same : s ≡ i = omega arith in rw same (rw (get_or-set_same cells i 1 0 short) (cell-full i e))
