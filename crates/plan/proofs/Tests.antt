-- The tests of plans of specs/Tests.antt decide what the definitions say: every continuation is in the list of orders. Assumes
-- nothing.
use Rattle.std.proofs.Common.{◌≡◌, refl, sym, ap, ◌∙◌, Bool, true, false, not, ◌&&◌, ◌||◌, ◌⊎◌, inl, inr, ⊎_elim, cond, List, [], ◌∷◌, map, ℕ, zero, suc, ◌+◌, ◌-◌, ◌≤◌, ◌<◌, arith, eqb, length}
use Rattle.std.proofs.lemmas.Bool.{and_parts, both_ways, cases_Bool, cases_eq, not-false, not-true}
use Rattle.std.proofs.lemmas.Bool.Decides.{Decides-and, Decides-at, Decides-below_and, Decides-eqb, Decides-like, Decides-ltb, Decides-or, nat_tests}
use Rattle.std.proofs.lemmas.Grind.{common_steps}
use Rattle.std.proofs.lemmas.List.Folds.{list_all-append, list_all-map}
use Rattle.std.proofs.lemmas.Slice.Eq.{bytes_eq-Decides}
use Rattle.std.specs.List.{list_all, list_any, range_with_len}
use Rattle.std.specs.Option.{option_map_or}
use Rattle.std.specs.Prelude.{Decides, bytes_eq, filter, flat_map, nat_le}
use Rattle.book.specs.Worths.{Meaning}
use Rattle.common.specs.Sets.{adding, any, has}
use Rattle.plan.specs.Tests.{PlanTests, before, behind, following, goes, is_best, is_cell, may, none_lawful, orders}
use Rattle.plan.proofs.Orders.{end-all, ended, goes-on, lawful-from, lawful-to, went-may, went-rest}
use Rattle.plan.proofs.Walks.{length-left}
use Rattle.plan.specs.Cells.{Cell, left}
use Rattle.plan.specs.Next.{May}
use Rattle.plan.specs.Orders.{Continuation, NoLawful, Order}
use Rattle.plan.specs.Totals.{Before, Best, total}
use Rattle.sheet.proofs.Rules.{Sound}
use Rattle.sheet.specs.Links.{linked}
use Rattle.sheet.specs.Margins.{deadline_of}
use Rattle.sheet.specs.Tables.{Table, load_of, task_of}
use Rattle.sheet.specs.declared.table.Kind.{Kind}
use Rattle.sheet.specs.declared.table.Kind.TheVariants.{Plain, Soft, Hard}

-- what holds of each number below n, where it holds of each number that fails p
pub none-below : (n : ℕ) (p : ℕ → Bool) (P : ℕ → Type 0) → ((k : ℕ) → Decides (not (p k)) (P k)) → Decides (not (any n p)) ((k : ℕ) → k < n → P k)
none-below n p P each = Decides-below_and (λ k. not (p k)) P (λ k. not (any k p)) each refl (λ k. grind arith) n

-- ---- the orders of a list that pass q

all-kept : (p q : Order → Bool) (os : List Order) → list_all p (filter q os) ≡ list_all (λ o. not (q o) || p o) os
all-kept p q [] = refl
all-kept p q (o ∷ os) = grind (arith, all-kept p q os, cases_Bool (q o))

pub all-from : (p : Order → Bool) (os : List Order) → ((o : Order) → p o ≡ true) → list_all p os ≡ true
all-from p [] f = refl
all-from p (o ∷ os) f = grind (arith, f o, all-from p os f)

any-kept : (p q : Order → Bool) (os : List Order) → list_any p (filter q os) ≡ list_any (λ o. q o && p o) os
any-kept p q [] = refl
any-kept p q (o ∷ os) = grind (arith, any-kept p q os, cases_Bool (q o))

pub any-to : (p : Order → Bool) (os : List Order) → list_any p os ≡ true → (o : Order) × (p o ≡ true)
any-to p [] h = absurd (cc)
any-to p (o ∷ os) h = ⊎_elim (λ e. (o, e)) (λ e. any-to p os (grind (arith, e))) (cases_Bool (p o))

-- where none passes, each fails
pub none-passes : (p : Order → Bool) (os : List Order) → list_any p os ≡ false → list_all (λ o. not (p o)) os ≡ true
none-passes p [] h = refl
none-passes p (o ∷ os) h = grind (arith, none-passes p os)

no-order : (os : List Order) → list_all (λ o. false) os ≡ eqb (length os) 0
no-order [] = refl
no-order (o ∷ os) = grind arith

-- ---- the orders that begin with each number

-- where all of the lists of the numbers from a on pass, so do those of each of these numbers
at-number : (q : Order → Bool) (f : ℕ → List Order) (n a k : ℕ) → a ≤ k → k < a + n → list_all q (flat_map f (range_with_len a n)) ≡ true → list_all q (f k) ≡ true
at-number q f zero a k le lt h = absurd (omega arith)
at-number q f (suc n) a k le lt h =
    let both = and_parts _ _ (sym (list_all-append q (f a) (flat_map f (range_with_len (a + 1) n))) ∙ h) in
    ⊎_elim
    (λ e. rw e both.0)
    (λ ne. at-number q f n (a + 1) k (omega arith) (omega arith) both.1)
    (cases_eq k a)

with-first : (b : Bool) (q : Order → Bool) (k : ℕ) (os : List Order) → b ≡ false → list_all q (cond b [] (map (λ o. k ∷ o) os)) ≡ true → list_all (λ o. q (k ∷ o)) os ≡ true
with-first true q k os e h = absurd (cc)
with-first false q k os e h = sym (list_all-map q (λ o. k ∷ o) os) ∙ h

-- ---- places in dictionary order

pub before-decides : (o p : Order) → Decides (before o p) (Before o p)
before-decides [] [] = (λ h. absurd (cc), λ b. absurd b)
before-decides [] (u ∷ p) = (λ h. tt, λ b. refl)
before-decides (k ∷ o) [] = (λ h. absurd (cc), λ b. absurd b)
before-decides (k ∷ o) (u ∷ p) = Decides-or _ _ (Decides-ltb k u) (Decides-and _ _ (Decides-eqb k u) (before-decides o p))

module _ (t : Table) (r : Sound t) where
  -- ---- what may follow a set

  all-in : (s k : ℕ) → Decides (not (any (length t) (λ a. linked t a k && not (has s a)))) ((a : ℕ) → a < length t → linked t a k ≡ true → has s a ≡ true)
  all-in s k = none-below (length t) _ _ (λ a. (λ h l. grind (arith, common_steps), λ f. grind (arith, common_steps)))

  timely : (kind : Kind) (at : ℕ) → Decides (option_map_or (λ d. nat_le at d) (deadline_of kind) true) ((d : ℕ) → kind ≡ Hard d → at ≤ d)
  timely Plain at = (λ h d e. absurd (cc), λ f. refl)
  timely Soft at = (λ h d e. absurd (cc), λ f. refl)
  timely (Hard x) at = (λ h d e. let same : x ≡ d = cc in grind (arith, nat_tests), λ f. let z = f x refl in grind (arith, nat_tests))

  may-decides : (s k : ℕ) → Decides (may t s k) (May t s k)
  may-decides s k =
      Decides-like _
      (λ h. record { task = h.0; out = h.1.0; ready = λ a l. h.1.1.0 a (r.known a k l).0 l; timely = h.1.1.1 })
      (λ m. (m.task, (m.out, ((λ a lt. m.ready a), m.timely))))
      (Decides-and _ _ (Decides-ltb k (length t)) (Decides-and _ _ (not-true _, λ e. ap not e) (Decides-and _ _ (all-in s k) (timely (task_of t k).kind _))))

  pub goes-decides : (s : ℕ) (o : Order) → Decides (goes t s o) (Continuation t s o)
  goes-decides s [] = Decides-like _ (ended t s) (end-all t s) (none-below (length t) _ _ (λ k. (λ h. not-false _ (not-true _ h), λ e. ap (λ x. not (not x)) e)))
  goes-decides s (k ∷ o) =
      Decides-like _
      (λ h. goes-on t s k o h.0 h.1)
      (λ c. (went-may t s k o c, went-rest t s k o c))
      (Decides-and _ _ (may-decides s k) (goes-decides (adding s k) o))

  -- ---- every continuation is listed

  pub listed : (q : Order → Bool) (s : ℕ) (o : Order) → Continuation t s o → list_all q (orders t (length o) s) ≡ true → q o ≡ true
  listed q s [] c h = (and_parts _ _ h).0
  listed q s (k ∷ o) c h =
      let may = went-may t s k o c in
      let here = at-number q _ (length t) 0 k (omega arith) (omega (arith, may.task)) h in
      listed (λ p. q (k ∷ p)) (adding s k) o (went-rest t s k o c) (with-first (has s k) q k _ may.out here)

  follows : (p : Order → Bool) (s : ℕ) (o : Order) → Continuation t s o → list_all p (following t s) ≡ true → p o ≡ true
  follows p s o c h =
      let count : length t - load_of (λ x. 1) t (has s) ≡ length o = omega (arith, length-left t s o c) in
      let each = rw (all-kept, count) at h in
      let here : (not (goes t s o) || p o) ≡ true = listed (λ x. not (goes t s x) || p x) s o c each in
      let goes = (goes-decides s o).1 c in
      grind arith

  -- ---- what holds of each continuation, and of some

  module _ (s : ℕ) (p : Order → Bool) (P : Order → Type 0) (decides : (o : Order) → Decides (p o) (P o)) where
    each : Decides (list_all p (following t s)) ((o : Order) → Continuation t s o → P o)
    each = (
      λ h o c. (decides o).0 (follows p s o c h),
      λ f. rw all-kept (all-from (λ o. not (goes t s o) || p o) _ (λ o. ⊎_elim (λ g. let e = (decides o).1 (f o ((goes-decides s o).0 g)) in grind arith) (λ g. grind arith) (cases_Bool (goes t s o)))),
    )

    pub one : Decides (list_any p (following t s)) ((o : Order) × Continuation t s o × P o)
    one = (
      λ h.
          let found = any-to (λ o. goes t s o && p o) _ (rw any-kept at h) in
          let both = and_parts _ _ found.1 in
          (found.0, (goes-decides s found.0).0 both.0, (decides found.0).0 both.1),
      λ w. ⊎_elim
          (λ e. e)
          (λ e. absurd (both_ways _ (not-true _ (follows _ s w.0 w.1 (none-passes p (following t s) e))) ((decides w.0).1 w.2)))
          (cases_Bool (list_any p (following t s))),
    )

  pub none : Decides (none_lawful t) (NoLawful t)
  none =
      Decides-at _ _
      (sym (no-order (following t 0)))
      (Decides-like _ (λ h o l. h o (lawful-to t o l)) (λ f o c. f o (lawful-from t o c)) (each 0 (λ o. false) (λ o. ⊥) (λ o. (λ h. absurd (cc), λ b. absurd b))))

  module _ (m : Meaning) where
    pub cell : (s v : ℕ) → Decides (is_cell m t s v) (Cell m t s v)
    cell s v =
        Decides-like _
        (λ h. record { bound = h.0; met = h.1 })
        (λ c. (c.bound, c.met))
        (Decides-and _ _ (each s _ _ (λ o. Decides-ltb (left m t s o) v)) (Decides-or _ _ (Decides-eqb v 0) (one s _ _ (λ o. Decides-eqb v (left m t s o + 1)))))

    module _ (o : Order) (v : ℕ) where
      behind-decides : (p : Order) → Decides (behind m t o v p) ((p ≡ o) ⊎ ((total m t p < v) ⊎ ((total m t p ≡ v) × Before o p)))
      behind-decides p = Decides-or _ _ (bytes_eq-Decides p o) (Decides-or _ _ (Decides-ltb _ v) (Decides-and _ _ (Decides-eqb _ v) (before-decides o p)))

      pub best : Decides (is_best m t o v) (Best m t o × (v ≡ total m t o))
      best =
          Decides-like _
          (λ h. (
            record {
              lawful = lawful-from t o h.0;
              first = λ p l other. ⊎_elim (λ e. absurd (other e)) (λ less. rw h.1.0 at less) (h.1.1 p (lawful-to t p l));
            },
            h.1.0,
          ))
          (λ b. (
            lawful-to t o b.0.lawful,
            (
              b.1,
              λ p c. ⊎_elim
                  (λ e. inl ((bytes_eq-Decides p o).0 e))
                  (λ ne. inr (rw b.1 (b.0.first p (lawful-from t p c) (λ e. both_ways _ ne ((bytes_eq-Decides p o).1 e)))))
                  (cases_Bool (bytes_eq p o)),
            ),
          ))
          (Decides-and _ _ (goes-decides 0 o) (Decides-and _ _ (Decides-eqb v (total m t o)) (each 0 _ _ behind-decides)))

pub deciding : (t : Table) → Sound t → PlanTests t
deciding t r = record { goes = goes-decides t r; best = best t r; cell = cell t r; none = none t r }
