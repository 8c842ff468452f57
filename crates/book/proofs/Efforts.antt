-- How keen tasks are, and the choice of the keenest. Assumes nothing.
use Rattle.std.proofs.Common.{◌≡◌, refl, ap, ap₂, subst, subst₂, ◌∙◌, Bool, true, false, List, inl, ℕ, ◌*◌, ◌≤◌, ◌<◌, arith, ltb, get_or, ltb-false, ltb-true, Option, Some, None, length}
use Rattle.std.proofs.lemmas.Bool.{both_ways}
use Rattle.std.proofs.lemmas.Grind.{common_steps}
use Rattle.std.proofs.lemmas.List.{get_or_past}
use Rattle.std.specs.Prelude.{MatchOption}
use Rattle.book.specs.Keenest.{Keenest, Keenness, effort, soft}
use Rattle.book.specs.Worths.{Meaning}
use Rattle.common.specs.Ranks.{FirstPresent}
use Rattle.common.specs.declared.fraction.Fraction.{Fraction}
use Rattle.sheet.proofs.Loads.{expected-pos, load-pos, load-same}
use Rattle.sheet.proofs.Paths.{up-decides}
use Rattle.sheet.proofs.Rules.{Sound}
use Rattle.sheet.specs.Links.{up}
use Rattle.sheet.specs.declared.table.Task.{Task}
use Rattle.sheet.specs.Tables.{Table, blank, expected_of, is_soft, load_of}

module _ (t : Table) (r : Sound t) where
  -- a number that no task has is not soft
  pub not-soft : (k : ℕ) → length t ≤ k → soft t k ≡ false
  not-soft k ge = ap (λ (x : Task). is_soft x.kind) (get_or_past t k blank ge)

  pub soft-within : (k : ℕ) → soft t k ≡ true → k < length t
  soft-within k e = let off = not-soft k in grind (arith, common_steps)

  -- the task itself is in its up-set, and takes time
  pub effort-pos : (k : ℕ) → k < length t → 0 < effort t k
  effort-pos k lt = load-pos expected_of t (λ u. up t u k) k lt ((up-decides t r.known k k).1 (inl refl)) (expected-pos t r k lt)

  -- the fraction that the code makes of the worth and the load of the up-set
  pub keenness-is : (m : Meaning) (k worth load : ℕ) (s : ℕ → Bool) (f : Option Fraction) → k < length t → soft t k ≡ true → worth ≡ m k 0 → load ≡ load_of expected_of t s →
      ((u : ℕ) → s u ≡ up t u k) → MatchOption f (load ≡ 0) (λ x. (x.num ≡ worth) × (x.den ≡ load)) → Keenness m t k f
  keenness-is m k worth load s None lt is w l ups none = absurd (omega (arith, effort-pos k lt, l, load-same expected_of t s (λ u. up t u k) ups))
  keenness-is m k worth load s (Some x) lt is w l ups h = (is, h.0 ∙ w, h.1 ∙ l ∙ load-same expected_of t s (λ u. up t u k) ups)

module _ (m : Meaning) (t : Table) (fs : List (Option Fraction)) (each : (k : ℕ) → Keenness m t k (get_or fs k None)) where
  -- what stands at a soft task, read off the keenness of each task
  there : (k : ℕ) → soft t k ≡ true → (x : Fraction) × (get_or fs k None ≡ Some x) × (x.num ≡ m k 0) × (x.den ≡ effort t k)
  there k s = found (get_or fs k None) (each k)
    where
      found : (o : Option Fraction) → Keenness m t k o → (x : Fraction) × (o ≡ Some x) × (x.num ≡ m k 0) × (x.den ≡ effort t k)
      found None off = absurd (both_ways _ off s)
      found (Some x) h = (x, refl, h.1, h.2)

  pub keenest-is : Sound t → (k : ℕ) → FirstPresent (λ (x y : Fraction). ltb (y.num * x.den) (x.num * y.den)) fs k → Keenest m t k
  keenest-is r k p =
      let here = subst (Keenness m t k) p.there (each k) in
      record {
        is_soft = here.0;
        some = λ u s. effort-pos t r u (soft-within t r u s);
        best = λ u s. let it = there u s in
            subst₂ ◌≤◌ (ap₂ ◌*◌ it.2 here.2) (ap₂ ◌*◌ here.1 it.3) (ltb-false _ _ (p.best u it.0 it.1));
        lowest = λ u lt s. let it = there u s in
            subst₂ ◌<◌ (ap₂ ◌*◌ it.2 here.2) (ap₂ ◌*◌ here.1 it.3) (ltb-true _ _ (p.first u it.0 lt it.1));
      }
