-- How a continuation goes on by one task, and how it ends. All that follows uses only this of orders. Assumes nothing.
use Rattle.std.proofs.Common.{◌≡◌, refl, ap, true, false, ◌⊎◌, inl, inr, ⊎_elim, cond, [], ◌∷◌, ◌++◌, ℕ, ◌+◌, ◌<◌, ◌≤◌, arith, eqb, length}
use Rattle.std.proofs.lemmas.Bool.{both_ways}
use Rattle.std.proofs.lemmas.Bool.Decides.{nat_tests}
use Rattle.std.proofs.lemmas.List.Sums.{sum_by-cons}
use Rattle.common.proofs.Sets.{has-adding, has-none, sum-adding, sum-none}
use Rattle.common.specs.Sets.{adding, has}
use Rattle.plan.specs.Next.{May}
use Rattle.plan.specs.Orders.{Continuation, Lawful, Order, end, maximum, times}
use Rattle.sheet.specs.Links.{linked}
use Rattle.sheet.specs.Tables.{Table, load_of, maximum_of, task_of}
use Rattle.sheet.specs.declared.table.Kind.TheVariants.{Hard}

-- ---- how often a task is listed

pub times-cons : (k x : ℕ) (o : Order) → times k (x ∷ o) ≡ cond (eqb x k) 1 0 + times k o
times-cons k x o = sum_by-cons (λ y. cond (eqb y k) 1 0) x o

no-split : (before : Order) (k : ℕ) (behind : Order) → [] ≡ before ++ k ∷ behind → ⊥
no-split [] k behind e = cc
no-split (y ∷ before) k behind e = cc

module _ (t : Table) where
  pub load-adding : (s k : ℕ) → k < length t → has s k ≡ false → load_of maximum_of t (has (adding s k)) ≡ load_of maximum_of t (has s) + maximum t k
  load-adding s k lt out = sum-adding (λ j. maximum_of (task_of t j)) s k (length t) out lt

  -- ---- the next task

  pub went-may : (s k : ℕ) (o : Order) → Continuation t s (k ∷ o) → May t s k
  went-may s k o c =
      let here = c.once k in
      let more = times-cons k k o in
      record {
        task = grind (arith, nat_tests);
        out = grind (arith, nat_tests);
        ready = λ a l. ⊎_elim (λ h. h) (λ z. absurd (omega arith)) (c.links [] k o a refl l);
        timely = λ d e. let z = c.deadlines [] k o d refl e in omega arith;
      }

  pub went-rest : (s k : ℕ) (o : Order) → Continuation t s (k ∷ o) → Continuation t (adding s k) o
  went-rest s k o c =
      let may = went-may s k o c in
      record {
        once = λ j. grind (arith, nat_tests, c.once j, c.once k, times-cons j k o, times-cons k k o, has-adding s k j);
        links = λ before x behind a e l.
            ⊎_elim
            (λ h. inl (grind (arith, nat_tests, has-adding s k a)))
            (λ m. grind (arith, nat_tests, times-cons a k before, has-adding s k a))
            (c.links (k ∷ before) x behind a (ap (λ p. k ∷ p) e) l);
        deadlines = λ before x behind d e kind.
            let z = c.deadlines (k ∷ before) x behind d (ap (λ p. k ∷ p) e) kind in
            omega (arith, load-adding s k may.task may.out, sum_by-cons (maximum t) k before);
      }

  pub goes-on : (s k : ℕ) (o : Order) → May t s k → Continuation t (adding s k) o → Continuation t s (k ∷ o)
  goes-on s k o may rest =
      record {
        once = λ j. grind (arith, nat_tests, rest.once j, may.task, may.out, times-cons j k o, has-adding s k j);
        links = links;
        deadlines = deadlines;
      }
    where
      links : (before : Order) (x : ℕ) (behind : Order) (a : ℕ) → k ∷ o ≡ before ++ x ∷ behind → linked t a x ≡ true → (has s a ≡ true) ⊎ (0 < times a before)
      links [] x behind a e l = let same : k ≡ x = cc in inl (may.ready a (rw same l))
      links (y ∷ before) x behind a e l =
          let same : k ≡ y = cc in
          let more : o ≡ before ++ x ∷ behind = cc in
          ⊎_elim
          (λ h. grind (arith, nat_tests, times-cons a y before, has-adding s k a))
          (λ m. inr (omega (arith, times-cons a y before)))
          (rest.links before x behind a more l)

      deadlines : (before : Order) (x : ℕ) (behind : Order) (d : ℕ) → k ∷ o ≡ before ++ x ∷ behind → (task_of t x).kind ≡ Hard d → end (maximum t) (load_of maximum_of t (has s)) before x ≤ d
      deadlines [] x behind d e kind = let same : k ≡ x = cc in let z = may.timely d (rw same kind) in rw (← same) (omega arith)
      deadlines (y ∷ before) x behind d e kind =
          let same : k ≡ y = cc in
          let more : o ≡ before ++ x ∷ behind = cc in
          let z = rest.deadlines before x behind d more kind in
          omega (arith, load-adding s k may.task may.out, sum_by-cons (maximum t) y before, ap (maximum t) same)

  -- ---- no next task

  pub ended : (s : ℕ) → ((k : ℕ) → k < length t → has s k ≡ true) → Continuation t s []
  ended s all =
      record {
        once = λ k. grind (arith, nat_tests, all k);
        links = λ before k behind a e l. absurd (no-split before k behind e);
        deadlines = λ before k behind d e kind. absurd (no-split before k behind e);
      }

  pub end-all : (s : ℕ) → Continuation t s [] → (k : ℕ) → k < length t → has s k ≡ true
  end-all s c k lt = grind (arith, nat_tests, c.once k)

  -- ---- lawful orders are the continuations of the empty set

  pub lawful-from : (o : Order) → Continuation t 0 o → Lawful t o
  lawful-from o c =
      record {
        once = λ k. grind (arith, nat_tests, c.once k, has-none k);
        links = λ before k behind a e l. ⊎_elim (λ h. absurd (both_ways _ (has-none a) h)) (λ m. m) (c.links before k behind a e l);
        deadlines = λ before k behind d e kind. let z = c.deadlines before k behind d e kind in omega (arith, none);
      }
    where
      none : load_of maximum_of t (has 0) ≡ 0
      none = sum-none (has 0) (λ j. maximum_of (task_of t j)) (length t) (λ k lt. has-none k)

  pub lawful-to : (o : Order) → Lawful t o → Continuation t 0 o
  lawful-to o l =
      record {
        once = λ k. grind (arith, nat_tests, l.once k, has-none k);
        links = λ before k behind a e h. inr (l.links before k behind a e h);
        deadlines = λ before k behind d e kind. let z = l.deadlines before k behind d e kind in omega (arith, sum-none (has 0) (λ j. maximum_of (task_of t j)) (length t) (λ k lt. has-none k));
      }
