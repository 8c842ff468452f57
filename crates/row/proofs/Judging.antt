-- What is answered where a task is to be placed behind a row. Assumes nothing.
use Rattle.std.proofs.Common.{◌≡◌, refl, true, false, not, ◌&&◌, inl, inr, ⊎_elim, [], ◌∷◌, ◌++◌, ℕ, ◌<◌, ◌≤◌, arith, length}
use Rattle.std.proofs.lemmas.Bool.{both_ways, cases_Bool, not-true, not_from_false, true_from_ne_false}
use Rattle.std.proofs.lemmas.Bool.Decides.{Decides-and, nat_tests}
use Rattle.common.proofs.Sets.{any-decides}
use Rattle.common.specs.Sets.{adding, any, has}
use Rattle.plan.specs.Next.{May}
use Rattle.plan.specs.Orders.{Order, times}
use Rattle.row.proofs.Laying.{more-fits, more-leads, next-may, set_has}
use Rattle.row.specs.Rows.{Applies, Judged, Leads, set_of}
use Rattle.row.specs.Rows.Applies.{unknown, placed, not_ready, no_order_so}
use Rattle.sheet.proofs.Rules.{Sound}
use Rattle.sheet.specs.Links.{linked}
use Rattle.sheet.specs.Remaining.{FitsAfter}
use Rattle.sheet.specs.Tables.{Table}

-- a row that leads on with the task is answered 0
pub judged-accepted : (t : Table) (row : Order) (k : ℕ) → Leads t (row ++ k ∷ []) → Judged t row k 0
judged-accepted t row k x = record { applies = inl refl; smallest = smallest; accepted = (λ z. x, λ y. refl) }
  where
    may : May t (set_of row) k
    may = next-may t row k x

    smallest : (j : ℕ) → Applies t row k j → (0 < 0) × (0 ≤ j)
    smallest j (unknown ge) = let lt = may.task in absurd (omega arith)
    smallest j (placed h) = let e = set_has k row in let out = may.out in absurd (grind (arith, nat_tests))
    smallest j (not_ready a l e) = let z = may.ready a l in let z' = set_has a row in absurd (grind (arith, nat_tests))
    smallest j (no_order_so none) = absurd (none x)

-- a task that no other refusal applies to is answered 17 where the row does not lead on with it
pub judged-no-order : (t : Table) (row : Order) (k : ℕ) → k < length t → (0 < times k row → ⊥) → ((a : ℕ) → linked t a k ≡ true → times a row ≡ 0 → ⊥)
    → (Leads t (row ++ k ∷ []) → ⊥) → Judged t row k 17
judged-no-order t row k lt out ready none =
    record { applies = inr (no_order_so none); smallest = smallest; accepted = (λ z. absurd (omega arith), λ x. absurd (none x)) }
  where
    smallest : (j : ℕ) → Applies t row k j → (0 < 17) × (17 ≤ j)
    smallest j (unknown ge) = absurd (omega arith)
    smallest j (placed h) = absurd (out h)
    smallest j (not_ready a l e) = absurd (ready a l e)
    smallest j (no_order_so none) = (omega arith, omega arith)

module _ (t : Table) (r : Sound t) (row : Order) (k : ℕ) where
  -- all its direct predecessors are in the row
  abbrev pub Ready : Type 0
  Ready = (a : ℕ) → linked t a k ≡ true → has (set_of row) a ≡ true

  pub judged-unknown : length t ≤ k → Judged t row k 1
  judged-unknown ge =
      record {
        applies = inr (unknown ge);
        smallest = smallest;
        accepted = (λ z. absurd (omega arith), λ x. let task = (more-fits t r row k x).0.task in absurd (omega arith));
      }
    where
      smallest : (j : ℕ) → Applies t row k j → (0 < 1) × (1 ≤ j)
      smallest j (unknown ge) = (omega arith, omega arith)
      smallest j (placed h) = (omega arith, omega arith)
      smallest j (not_ready a l e) = (omega arith, omega arith)
      smallest j (no_order_so none) = (omega arith, omega arith)

  module _ (lt : k < length t) where
    pub judged-placed : has (set_of row) k ≡ true → Judged t row k 15
    judged-placed in' =
        record {
          applies = inr (placed (grind (arith, nat_tests, set_has k row)));
          smallest = smallest;
          accepted = (λ z. absurd (omega arith), λ x. absurd (both_ways _ (more-fits t r row k x).0.out in'));
        }
      where
        smallest : (j : ℕ) → Applies t row k j → (0 < 15) × (15 ≤ j)
        smallest j (unknown ge) = absurd (omega arith)
        smallest j (placed h) = (omega arith, omega arith)
        smallest j (not_ready a l e) = (omega arith, omega arith)
        smallest j (no_order_so none) = (omega arith, omega arith)

    module _ (out : has (set_of row) k ≡ false) where
      never-placed : 0 < times k row → ⊥
      never-placed h = let e = set_has k row in absurd (grind (arith, nat_tests))

      missing : (Ready → ⊥) → (a : ℕ) × ((linked t a k ≡ true) × (has (set_of row) a ≡ false))
      missing not-ready =
          let test = any-decides (length t) _ (λ a. (linked t a k ≡ true) × (has (set_of row) a ≡ false))
          (λ a. Decides-and (linked t a k) (not (has (set_of row) a)) (λ e. e, λ e. e) (not-true _, not_from_false _)) in
          ⊎_elim
          (λ e. let m = test.0 e in (m.0, m.2))
          (λ e. absurd (not-ready (λ a l. true_from_ne_false _ (λ o. both_ways _ e (test.1 (a, (r.known a k l).0, (l, o)))))))
          (cases_Bool (any (length t) (λ a. linked t a k && not (has (set_of row) a))))

      pub judged-not-ready : (Ready → ⊥) → Judged t row k 16
      judged-not-ready not-ready =
          let m = missing not-ready in
          record {
            applies = inr (not_ready m.0 m.1.0 (let e = set_has m.0 row in let o = m.1.1 in grind (arith, nat_tests)));
            smallest = smallest;
            accepted = (λ z. absurd (omega arith), λ x. absurd (not-ready (more-fits t r row k x).0.ready));
          }
        where
          smallest : (j : ℕ) → Applies t row k j → (0 < 16) × (16 ≤ j)
          smallest j (unknown ge) = absurd (omega arith)
          smallest j (placed h) = absurd (never-placed h)
          smallest j (not_ready a l e) = (omega arith, omega arith)
          smallest j (no_order_so none) = (omega arith, omega arith)

      module _ (ready : Ready) where
        never-missing : (a : ℕ) → linked t a k ≡ true → times a row ≡ 0 → ⊥
        never-missing a l e = let z = ready a l in let z' = set_has a row in absurd (grind (arith, nat_tests))

        pub judged-late : (FitsAfter t (adding (set_of row) k) → ⊥) → Judged t row k 17
        judged-late late = judged-no-order t row k lt never-placed never-missing (λ x. late (more-fits t r row k x).1)

        pub judged-fitting : Leads t row → FitsAfter t (adding (set_of row) k) → Judged t row k 0
        judged-fitting x fits = judged-accepted t row k (more-leads t r row k x lt out ready fits)
