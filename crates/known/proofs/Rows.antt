-- The tests of rows of specs/Rows.antt decide what the definitions say. Assumes nothing.
use Rattle.std.proofs.Common.{◌≡◌, refl, sym, ◌∙◌, Bool, true, false, not, ◌||◌, ⊎_elim, [], ◌∷◌, ◌++◌, ℕ, ◌-◌, ◌≤◌, ◌<◌, arith, eqb, leb, ltb, drop, length}
use Rattle.std.proofs.lemmas.Bool.{both_ways, cases_lt, false_from_ne_true, le-leb, leb-true, lt-ltb, ltb-true, not-true, true_from_ne_false}
use Rattle.std.proofs.lemmas.Bool.Decides.{Decides-and, Decides-eqb, Decides-like, Decides-ltb, nat_tests, not_from_Decides}
use Rattle.std.proofs.lemmas.Slice.Eq.{bytes_eq-Decides, starts_is}
use Rattle.std.specs.List.{list_all, starts_with}
use Rattle.std.specs.Prelude.{Decides}
use Rattle.common.proofs.Sets.{any-decides}
use Rattle.common.specs.Refusals.{first_fit}
use Rattle.common.specs.Sets.{has}
use Rattle.plan.proofs.Tests.{all-from, any-to, before-decides, goes-decides, listed, none-passes}
use Rattle.plan.specs.Tests.{goes}
use Rattle.known.specs.Rows.{RowTests, ahead, is_first, is_judged, lacks, leads, rests}
use Rattle.plan.proofs.Orders.{lawful-from, lawful-to}
use Rattle.plan.specs.Orders.{Lawful, Order, times}
use Rattle.plan.specs.Totals.{Before}
use Rattle.row.proofs.Judging.{judged-accepted, judged-no-order, judged-not-ready, judged-placed, judged-unknown}
use Rattle.row.proofs.Laying.{follows, length-row, set_has}
use Rattle.row.specs.Rows.{First, Judged, Leads, set_of}
use Rattle.sheet.proofs.Rules.{Sound}
use Rattle.sheet.specs.Links.{linked}
use Rattle.sheet.specs.Tables.{Table}

-- ---- an order that begins with a row

begins : (row o : Order) → Decides (starts_with eqb o row) ((rest : Order) × (o ≡ row ++ rest))
begins row o = let is = starts_is Decides-eqb o row (starts_with eqb o row) refl in (λ h. (drop (length row) o, is.0 h), λ x. is.1 x.0 x.1)

-- where b and not e, f
unless : (b e f : Bool) (B E F : Type 0) → Decides b B → Decides e E → Decides f F → Decides (not b || (e || f)) (B → (E → ⊥) → F)
unless true true f B E F x y z = (λ h p ne. absurd (ne (y.0 refl)), λ g. refl)
unless true false f B E F x y z = (λ h p ne. z.0 h, λ g. z.1 (g (x.0 refl) (not_from_Decides false y refl)))
unless false e f B E F x y z = (λ h p. absurd (not_from_Decides false x refl p), λ g. refl)

-- ---- a call that is judged has one answer

module _ (t : Table) (row : Order) (k : ℕ) where
  one-answer : (n m : ℕ) → Judged t row k n → Judged t row k m → n ≡ m
  one-answer n m x y =
      ⊎_elim
      (λ zero. ⊎_elim (λ none. zero ∙ sym none) (λ some. absurd (let h = x.smallest m some in omega arith)) y.applies)
      (λ fits. ⊎_elim (λ none. absurd (let h = y.smallest n fits in omega arith)) (λ some. let h = x.smallest m some in let h' = y.smallest n fits in omega arith) y.applies)
      x.applies

module _ (t : Table) (r : Sound t) where
  -- ---- what stands behind the row in a lawful order is listed

  behind : (q : Order → Bool) (row rest : Order) → Lawful t (row ++ rest) → list_all q (rests t row) ≡ true → q rest ≡ true
  behind q row rest l h =
      let count : length t - length row ≡ length rest = omega (arith, length-row t row rest l) in
      listed t r q (set_of row) rest (follows t row rest l) (rw count at h)

  lawful-decides : (o : Order) → Decides (goes t 0 o) (Lawful t o)
  lawful-decides o = Decides-like _ (lawful-from t o) (lawful-to t o) (goes-decides t r 0 o)

  leads-decides : (row : Order) → Decides (leads t row) (Leads t row)
  leads-decides row = (
    λ h. let found = any-to (λ rest. goes t 0 (row ++ rest)) (rests t row) h in (found.0, (lawful-decides (row ++ found.0)).0 found.1),
    λ x. true_from_ne_false _ (λ e.
        both_ways _ (not-true _ (behind (λ rest. not (goes t 0 (row ++ rest))) row x.0 x.1 (none-passes _ (rests t row) e))) ((lawful-decides (row ++ x.0)).1 x.1)),
  )

  -- ---- the answer where a task is to be placed

  module _ (row : Order) (k : ℕ) where
    below : Decides false (length t ≤ k) → k < length t
    below x = let no = not_from_Decides false x refl in ⊎_elim (λ lt. lt) (λ ge. absurd (no ge)) (cases_lt k (length t))

    out : Decides false (0 < times k row) → has (set_of row) k ≡ false
    out y = set_has k row ∙ false_from_ne_true _ (λ e. not_from_Decides false y refl (ltb-true _ _ e))

    -- a direct predecessor is not in the row
    abbrev Lacks : Type 0
    Lacks = (a : ℕ) × (a < length t) × ((linked t a k ≡ true) × (times a row ≡ 0))

    lacks-decides : Decides (lacks t row k) Lacks
    lacks-decides = any-decides (length t) _ (λ a. (linked t a k ≡ true) × (times a row ≡ 0)) (λ a. Decides-and _ _ (λ e. e, λ e. e) (Decides-eqb (times a row) 0))

    ready : (Lacks → ⊥) → (a : ℕ) → linked t a k ≡ true → times a row ≡ 0 → ⊥
    ready none a l e = none (a, (r.known a k l).0, (l, e))

    not-ready : Lacks → ((a : ℕ) → linked t a k ≡ true → has (set_of row) a ≡ true) → ⊥
    not-ready x all = let there = all x.0 x.2.0 in let e = set_has x.0 row in let none = x.2.1 in absurd (grind (arith, nat_tests))

    by-tests : (u p l so : Bool) → Decides u (length t ≤ k) → Decides p (0 < times k row) → Decides l Lacks → Decides so (Leads t (row ++ k ∷ []))
        → Judged t row k (first_fit ((u, 1) ∷ (p, 15) ∷ (l, 16) ∷ (not so, 17) ∷ []))
    by-tests true p l so x y z w = judged-unknown t r row k (x.0 refl)
    by-tests false true l so x y z w = judged-placed t r row k (below x) (set_has k row ∙ lt-ltb _ _ (y.0 refl))
    by-tests false false true so x y z w = judged-not-ready t r row k (below x) (out y) (not-ready (z.0 refl))
    by-tests false false false true x y z w = judged-accepted t row k (w.0 refl)
    by-tests false false false false x y z w =
        judged-no-order t row k (below x) (not_from_Decides false y refl) (ready (not_from_Decides false z refl)) (not_from_Decides false w refl)

    judged-so : Judged t row k (first_fit ((leb (length t) k, 1) ∷ (ltb 0 (times k row), 15) ∷ (lacks t row k, 16) ∷ (not (leads t (row ++ k ∷ [])), 17) ∷ []))
    judged-so = by-tests _ _ _ _ (leb-true _ _, le-leb _ _) (Decides-ltb _ _) lacks-decides (leads-decides (row ++ k ∷ []))

    judged : (n : ℕ) → Decides (is_judged t row k n) (Judged t row k n)
    judged n = Decides-like _ (λ e. rw e judged-so) (λ x. one-answer t row k n _ x judged-so) (Decides-eqb n _)

  -- ---- the first order

  module _ (row o : Order) where
    ahead-decides : (p : Order) → Decides (ahead t o p) (Lawful t p → (p ≡ o → ⊥) → Before o p)
    ahead-decides p = unless _ _ _ _ _ _ (lawful-decides p) (bytes_eq-Decides p o) (before-decides o p)

    others : Decides (list_all (λ rest. ahead t o (row ++ rest)) (rests t row)) ((rest : Order) → Lawful t (row ++ rest) → (row ++ rest ≡ o → ⊥) → Before o (row ++ rest))
    others = (
      λ h rest l. (ahead-decides (row ++ rest)).0 (behind (λ p. ahead t o (row ++ p)) row rest l h) l,
      λ f. all-from _ (rests t row) (λ rest. (ahead-decides (row ++ rest)).1 (f rest)),
    )

    first : Decides (is_first t row o) (First t row o)
    first =
        Decides-like _
        (λ h. record { lawful = h.0; begins = h.1.0; first = h.1.1 })
        (λ f. (f.lawful, (f.begins, f.first)))
        (Decides-and _ _ (lawful-decides o) (Decides-and _ _ (begins row o) others))

pub deciding : (t : Table) → Sound t → RowTests t
deciding t r = record { leads = leads-decides t r; judged = judged t r; first = first t r }
