-- The tests of the worked list decide what the definitions say. Assumes nothing.
use Rattle.std.proofs.Common.{◌≡◌, refl, sym, ap, Bool, true, false, not, ◌&&◌, ⊎_elim, ℕ, ◌*◌, ◌≤◌, ◌<◌, arith, leb, ltb, pos, ◌≤ℤ◌, ◌<ℤ◌, Option, Some, None, length}
use Rattle.std.proofs.lemmas.Bool.{cases_lt, not-true}
use Rattle.std.proofs.lemmas.Bool.Decides.{Decides-and, Decides-like}
use Rattle.std.proofs.lemmas.Grind.{common_steps}
use Rattle.std.proofs.lemmas.Int.{ints}
use Rattle.std.specs.Prelude.{Decides, is_none}
use Rattle.book.proofs.Efforts.{effort-pos, not-soft, soft-within}
use Rattle.book.specs.Keenest.{Keenest, effort, soft}
use Rattle.book.specs.Worths.{Meaning}
use Rattle.common.specs.Sets.{any}
use Rattle.common.specs.declared.ticks.Margin.{Margin}
use Rattle.known.specs.Worked.{Tests, is_keenest, none_soft, smaller}
use Rattle.plan.proofs.Tests.{none-below}
use Rattle.sheet.proofs.Margins.{no-margin}
use Rattle.sheet.proofs.Rules.{Sound}
use Rattle.sheet.specs.Margins.{margin_of, Tightest}
use Rattle.sheet.specs.Tables.{Table}

-- ---- a margin that may be absent: it is not smaller than m, m is smaller than it, it is absent

not-smaller : (o : Option Margin) (m : Margin) → Decides (not (smaller o (Some m))) ((x : Margin) → o ≡ Some x → m.0 ≤ℤ x.0)
not-smaller (Some x) m = (λ h y e. grind (arith, ints), λ f. let h = f x refl in grind (arith, ints))
not-smaller None m = (λ h y e. absurd (cc), λ f. refl)

smaller-than : (m : Margin) (o : Option Margin) → Decides (not (not (smaller (Some m) o))) ((x : Margin) → o ≡ Some x → m.0 <ℤ x.0)
smaller-than m (Some x) = (λ h y e. grind (arith, ints), λ f. let h = f x refl in grind (arith, ints))
smaller-than m None = (λ h y e. absurd (cc), λ f. refl)

absent : (o : Option Margin) → Decides (not (not (is_none o))) (o ≡ None)
absent (Some x) = (λ h. absurd (cc), λ e. absurd (cc))
absent None = (λ h. refl, λ e. refl)

-- ---- the margins of a sheet: there is none past its tasks

module _ (t : Table) where
  within : (k : ℕ) (m : Margin) → margin_of t k ≡ Some m → k < length t
  within k m e = ⊎_elim (λ lt. lt) (λ ge. let n = no-margin t k ge in absurd (cc)) (cases_lt k (length t))

  -- none is smaller than m
  least : (m : Margin) → Decides (not (any (length t) (λ u. smaller (margin_of t u) (Some m)))) ((u : ℕ) (x : Margin) → margin_of t u ≡ Some x → m.0 ≤ℤ x.0)
  least m = Decides-like _ (λ h u x e. h u (within u x e) x e) (λ h u lt. h u) (none-below (length t) _ _ (λ u. not-smaller (margin_of t u) m))

  -- m is smaller than each below k
  lowest : (m : Margin) (k : ℕ) → Decides (not (any k (λ u. not (smaller (Some m) (margin_of t u))))) ((u : ℕ) (x : Margin) → u < k → margin_of t u ≡ Some x → m.0 <ℤ x.0)
  lowest m k = Decides-like _ (λ h u x lt. h u lt x) (λ h u lt x. h u x lt) (none-below k _ _ (λ u. smaller-than m (margin_of t u)))

  tightest : (k : ℕ) (o : Option Margin) → o ≡ margin_of t k → Decides (not (is_none o) && (not (any (length t) (λ u. smaller (margin_of t u) o)) && not (any k (λ u. not (smaller o (margin_of t u)))))) (Tightest t k)
  tightest k (Some m) e =
      Decides-like _
      (λ h. record { margin = m; has_it = sym e; least = h.0; lowest = h.1 })
      (λ p. let same : p.margin ≡ m = cc in (λ u x h. rw same at p.least u x h, λ u x lt h. rw same at p.lowest u x lt h))
      (Decides-and _ _ (least m) (lowest m k))
  tightest k None e = (λ h. absurd (cc), λ p. let h = p.has_it in absurd (cc))

  none : Decides (not (any (length t) (λ k. not (is_none (margin_of t k))))) ((k : ℕ) → margin_of t k ≡ None)
  none = Decides-like _ (λ h k. ⊎_elim (h k) (no-margin t k) (cases_lt k (length t))) (λ h k lt. h k) (none-below (length t) _ _ (λ k. absent (margin_of t k)))

-- ---- soft tasks: task k is the keenest, or none is

module _ (t : Table) (r : Sound t) where
  module _ (m : Meaning) (k : ℕ) where
    no-keener : (u : ℕ) → Decides (not (soft t u && ltb (m k 0 * effort t u) (m u 0 * effort t k))) (soft t u ≡ true → m u 0 * effort t k ≤ m k 0 * effort t u)
    no-keener u = (λ h s. grind (arith, common_steps), λ f. grind (arith, common_steps))

    none-as-keen : (u : ℕ) → Decides (not (soft t u && leb (m k 0 * effort t u) (m u 0 * effort t k))) (soft t u ≡ true → m u 0 * effort t k < m k 0 * effort t u)
    none-as-keen u = (λ h s. grind (arith, common_steps), λ f. grind (arith, common_steps))

    keenest : Decides (is_keenest m t k) (Keenest m t k)
    keenest =
        Decides-like _
        (λ h. record {
          is_soft = h.0;
          some = λ u s. effort-pos t r u (soft-within t r u s);
          best = λ u s. h.1.0 u (soft-within t r u s) s;
          lowest = λ u lt s. h.1.1 u lt s;
        })
        (λ p. (p.is_soft, (λ u lt. p.best u, λ u lt. p.lowest u lt)))
        (Decides-and _ _ (λ e. e, λ e. e) (Decides-and _ _ (none-below (length t) _ _ no-keener) (none-below k _ _ none-as-keen)))

  none-soft : Decides (none_soft t) ((k : ℕ) → soft t k ≡ false)
  none-soft = Decides-like _ (λ h k. ⊎_elim (h k) (not-soft t r k) (cases_lt k (length t))) (λ h k lt. h k) (none-below (length t) _ _ (λ k. (not-true _, λ e. ap not e)))

pub standing : (t : Table) → Sound t → Tests t
standing t r =
    record {
      fits = least t (record { 0 = pos 0 });
      tightest = λ k. tightest t k (margin_of t k) refl;
      none_tight = none t;
      keenest = keenest t r;
      none_keen = none-soft t r;
    }
