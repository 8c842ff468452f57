-- A set has a continuation exactly where its table fits after it; so a sheet has a lawful order exactly where it fits. Assumes nothing.
use Rattle.std.proofs.Common.{Decides, ◌≡◌, ◌↔◌, refl, sym, cond, Bool, true, false, not, ◌⊎◌, inl, inr, ⊎_elim, [], ◌∷◌, ℕ, zero, suc, ◌+◌, ◌<◌, ◌≤◌, arith, length, Some, None, option_map, pos, ◌≤ℤ◌}
use Rattle.std.proofs.lemmas.Bool.{and_parts, both_ways, not-true, not_from_false, cases_Bool}
use Rattle.std.proofs.lemmas.Bool.Decides.{Decides-and, Decides-or, nat_tests}
use Rattle.std.proofs.lemmas.Int.{ints}
use Rattle.common.proofs.Sets.{any-decides, has-adding, has-none, sum-less, sum-within}
use Rattle.common.specs.Sets.{adding, has, sum_where}
use Rattle.common.specs.declared.ticks.Margin.{Margin}
use Rattle.plan.proofs.Leading.{Lead, Ready, added, adding-cases, asks-after, asks-before, asks-own, asks-task, due-time, lead, ready, stays, up-task}
use Rattle.plan.proofs.Orders.{end-all, ended, goes-on, lawful-from, lawful-to, load-adding, went-may, went-rest}
use Rattle.plan.specs.Next.{May}
use Rattle.plan.specs.Orders.{Continuation, Lawful, Order, maximum}
use Rattle.sheet.proofs.Ancestors.{ancestors, closed-up}
use Rattle.sheet.proofs.Margins.{fits-none}
use Rattle.sheet.proofs.Paths.{Up, up-decides}
use Rattle.sheet.proofs.Rules.{Sound}
use Rattle.sheet.specs.Links.{Closed, linked, up}
use Rattle.sheet.specs.Margins.{Fits, deadline_of}
use Rattle.sheet.specs.Remaining.{FitsAfter, asks, left_after, pressing}
use Rattle.sheet.specs.Tables.{Table, load_of, maximum_of, task_of}
use Rattle.sheet.specs.declared.table.Kind.{Kind}
use Rattle.sheet.specs.declared.table.Kind.TheVariants.{Plain, Soft, Hard}

abbrev load : Table → (ℕ → Bool) → ℕ
load t p = load_of maximum_of t p

pub closed-adding : (t : Table) (s k : ℕ) → Closed t s → May t s k → Closed t (adding s k)
closed-adding t s k closed may a b l h = grind (arith, nat_tests, has-adding s k a, has-adding s k b, closed a b l, may.ready a)

-- what FitsAfter says, of deadlines
abbrev Room : Table → ℕ → Type 0
Room t s = (h d : ℕ) → has s h ≡ false → (task_of t h).kind ≡ Hard d → load t (pressing t s d) ≤ d

module _ (t : Table) (r : Sound t) where
  abbrev Pressing : (s d u : ℕ) → Type 0
  Pressing s d u = (has s u ≡ true) ⊎ ((h : ℕ) × (h < length t) × ((asks t s d h ≡ true) × Up t u h))

  pressing-decides : (s d u : ℕ) → Decides (pressing t s d u) (Pressing s d u)
  unfolding pressing
  pressing-decides s d u =
      Decides-or (has s u) _ (λ e. e, λ e. e)
      (any-decides (length t) _ (λ h. (asks t s d h ≡ true) × Up t u h) (λ h. Decides-and (asks t s d h) (up t u h) (λ e. e, λ e. e) (up-decides t r.known u h)))

  -- a member presses, and so does what is in the up-set of a task that asks
  member : (s d u : ℕ) → has s u ≡ true → pressing t s d u ≡ true
  member s d u e = (pressing-decides s d u).1 (inl e)

  above : (s d u h : ℕ) → asks t s d h ≡ true → Up t u h → pressing t s d u ≡ true
  above s d u h e p = (pressing-decides s d u).1 (inr (h, asks-task t s d h e, (e, p)))

  -- what takes in the set, and the up-set of each task that asks, takes in what presses
  within : (s d : ℕ) (q : ℕ → Bool) → ((u : ℕ) → has s u ≡ true → q u ≡ true) → ((u h : ℕ) → asks t s d h ≡ true → Up t u h → q u ≡ true)
      → load t (pressing t s d) ≤ load t q
  within s d q set ups = sum-within _ q _ (λ u e. ⊎_elim (set u) (λ m. ups u m.0 m.2.0 m.2.1) ((pressing-decides s d u).0 e)) (length t)

  -- ---- from a continuation

  -- at d: what presses takes no more than d, or no task asks
  abbrev Kept : (s d : ℕ) → Type 0
  Kept s d = (load t (pressing t s d) ≤ d) ⊎ ((h : ℕ) → asks t s d h ≡ true → ⊥)

  -- the first task k of a continuation
  module _ (s k d : ℕ) (closed : Closed t s) (may : May t s k) where
    up-added : {u : ℕ} → Up t u k → has (adding s k) u ≡ true
    up-added p = closed-up t (adding s k) (closed-adding t s k closed may) p (added s k)

    kept-fits : load t (pressing t (adding s k) d) ≤ d → load t (pressing t s d) ≤ d
    kept-fits fits = omega (arith, within s d (pressing t (adding s k) d) old ups)
      where
        old : (u : ℕ) → has s u ≡ true → pressing t (adding s k) d u ≡ true
        old u e = member (adding s k) d u (stays s k u e)

        ups : (u h : ℕ) → asks t s d h ≡ true → Up t u h → pressing t (adding s k) d u ≡ true
        ups u h e p = ⊎_elim (λ q. member (adding s k) d u (up-added (rw (← q) p))) (λ f. above (adding s k) d u h f p) (asks-after t s k d h e)

    kept-alone : ((h : ℕ) → asks t (adding s k) d h ≡ true → ⊥) → asks t s d k ≡ true → load t (pressing t s d) ≤ d
    kept-alone none e =
        omega (
          arith,
          within s d (has (adding s k)) (stays s k) ups,
          load-adding t s k may.task may.out,
          due-time (task_of t k).kind d (load t (has s) + maximum t k) (and_parts _ _ e).1 may.timely,
        )
      where
        ups : (u h : ℕ) → asks t s d h ≡ true → Up t u h → has (adding s k) u ≡ true
        ups u h e p = ⊎_elim (λ q. up-added (rw (← q) p)) (λ f. absurd (none h f)) (asks-after t s k d h e)

    kept-before : Kept (adding s k) d → Kept s d
    kept-before (inl fits) = inl (kept-fits fits)
    kept-before (inr none) =
        ⊎_elim
        (λ e. inl (kept-alone none e))
        (λ e. inr (λ h f. ⊎_elim (λ q. both_ways _ e (rw q at f)) (none h) (asks-after t s k d h f)))
        (cases_Bool (asks t s d k))

  kept : (o : Order) (s d : ℕ) → Closed t s → Continuation t s o → Kept s d
  kept [] s d closed c = inr (λ h e. let i = end-all t s c h (asks-task t s d h e) in absurd (grind (arith, nat_tests)))
  kept (k ∷ o) s d closed c =
      let may = went-may t s k o c in
      kept-before s k d closed may (kept o (adding s k) d (closed-adding t s k closed may) (went-rest t s k o c))

  fits-from : (s : ℕ) (o : Order) → Closed t s → Continuation t s o → Room t s
  fits-from s o closed c h d out e = ⊎_elim (λ fits. fits) (λ none. absurd (none h (asks-own t s d h out e))) (kept o s d closed c)

  -- ---- to a continuation

  -- a task of the up-set of one that asks presses with the members
  grown : (s d u h : ℕ) → asks t s d h ≡ true → Up t u h → (v : ℕ) → has (adding s u) v ≡ true → pressing t s d v ≡ true
  grown s d u h e p v m = ⊎_elim (λ q. rw q (above s d u h e p)) (member s d v) (adding-cases s u v m)

  -- a ready task may come next where all that is left fits
  ready-may : (s u : ℕ) → u < length t → has s u ≡ false → ((a : ℕ) → linked t a u ≡ true → has s a ≡ true) → Room t s → May t s u
  ready-may s u task out ready' fits = record { task = task; out = out; ready = ready'; timely = timely }
    where
      timely : (d : ℕ) → (task_of t u).kind ≡ Hard d → load t (has s) + maximum t u ≤ d
      timely d e =
          omega (
            arith,
            fits u d out e,
            load-adding t s u task out,
            sum-within _ (pressing t s d) (maximum t) (grown s d u u (asks-own t s d u out e) (inl refl)) (length t),
          )

  -- a ready task of the up-set of the one that leads may come next, and all that is left fits after it
  module _ (s h u : ℕ) (lead : Lead t s (length t) h) (low : Ready t r s h u) (fits : Room t s) where
    next-may : May t s u
    next-may = ready-may s u (up-task t r u h lead.task low.up) low.out low.ready fits

    next-fits : Room t (adding s u)
    next-fits x d out e =
        omega (
          arith,
          fits x d (not-true _ (and_parts _ _ ask).0) e,
          within (adding s u) d (pressing t s d)
              (grown s d u h (lead.first d x (asks-task t s d x ask) ask) low.up)
              (λ v z f p. above s d v z (asks-before t s u d z f) p),
        )
      where
        ask : asks t s d x ≡ true
        ask = asks-before t s u d x (asks-own t (adding s u) d x out e)

  coming : (s h : ℕ) → Lead t s (length t) h → Room t s → (u : ℕ) × May t s u × Room t (adding s u)
  coming s h l fits = let k = ready t r (suc (ancestors t h)) s h (omega arith) l.out in (k.0, next-may s h k.0 l k.1 fits, next-fits s h k.0 l k.1 fits)

  -- no task is left, or one may come next after which all that is left fits
  next : (s : ℕ) → Room t s → ((u : ℕ) → u < length t → has s u ≡ true) ⊎ ((u : ℕ) × May t s u × Room t (adding s u))
  next s fits = ⊎_elim inl (λ m. inr (coming s m.0 m.1 fits)) (lead t s (length t))

  -- how many tasks are left
  left : ℕ → ℕ
  left s = sum_where (λ u. not (has s u)) (λ _. 1) (length t)

  left-less : (s u : ℕ) → u < length t → has s u ≡ false → left (adding s u) < left s
  unfolding left
  left-less s u lt out =
      sum-less _ _ (λ _. 1) (λ v e. grind (arith, nat_tests, has-adding s u v)) (length t) u lt
      (grind (arith, nat_tests, has-adding s u u))
      (not_from_false _ out)
      (omega arith)

  going-on : (s u : ℕ) → May t s u → (o : Order) × Continuation t (adding s u) o → (o : Order) × Continuation t s o
  going-on s u may rest = (u ∷ rest.0, goes-on t s u rest.0 may rest.1)

  goes : (n s : ℕ) → left s < n → Closed t s → Room t s → (o : Order) × Continuation t s o
  goes zero s lt closed fits = absurd (omega arith)
  goes (suc n) s lt closed fits =
      ⊎_elim
      (λ all. ([], ended t s all))
      (λ u. going-on s u.0 u.1 (goes n (adding s u.0) (omega (arith, left-less s u.0 u.1.task u.1.out)) (closed-adding t s u.0 closed u.1) u.2))
      (next s fits)

  room-after : (s : ℕ) → Closed t s → Room t s ↔ ((o : Order) × Continuation t s o)
  room-after s closed = (goes (suc (left s)) s (omega arith) closed, λ c. fits-from s c.0 closed c.1)

-- ---- margins

-- a margin that is there is not below 0, where what presses is done by the deadline
met : (t : Table) (s : ℕ) (kind : Kind) (m : Margin) → option_map (left_after t s) (deadline_of kind) ≡ Some m → ((d : ℕ) → kind ≡ Hard d → load t (pressing t s d) ≤ d)
    → pos 0 ≤ℤ m.0
met t s Plain m e f = absurd (cc)
met t s Soft m e f = absurd (cc)
met t s (Hard d) m e f = let h = f d refl in let q : m ≡ left_after t s d = cc in rw q (omega (arith, ints))

room-of : (t : Table) (s : ℕ) → FitsAfter t s → Room t s
room-of t s fits h d out e = let z = fits h (left_after t s d) (rw out (rw e refl)) in omega (arith, ints)

room-fits : (t : Table) (s : ℕ) → Room t s → FitsAfter t s
room-fits t s room k m e = outside (has s k) refl e
  where
    outside : (b : Bool) → b ≡ has s k → cond b None (option_map (left_after t s) (deadline_of (task_of t k).kind)) ≡ Some m → pos 0 ≤ℤ m.0
    outside true is e' = absurd (cc)
    outside false is e' = met t s (task_of t k).kind m e' (λ d q. room k d (sym is) q)

pub fits-after : (t : Table) → Sound t → (s : ℕ) → Closed t s → FitsAfter t s ↔ ((o : Order) × Continuation t s o)
fits-after t r s closed = let both = room-after t r s closed in (λ f. both.0 (room-of t s f), λ c. room-fits t s (both.1 c))

pub fits-may : (t : Table) → Sound t → (s k : ℕ) → k < length t → has s k ≡ false → ((a : ℕ) → linked t a k ≡ true → has s a ≡ true) → FitsAfter t s → May t s k
fits-may t r s k lt out ready' fits = ready-may t r s k lt out ready' (room-of t s fits)

-- ---- the empty set

pub closed-none : (t : Table) → Closed t 0
closed-none t a b l h = absurd (both_ways _ (has-none b) h)

pub fits-tells : (t : Table) → Sound t → Fits t ↔ ((o : Order) × Lawful t o)
fits-tells t r =
    let none = fits-after t r 0 (closed-none t) in
    let fits = fits-none t in
    (λ f. let c = none.0 (fits.1 f) in (c.0, lawful-from t c.0 c.1), λ l. fits.0 (none.1 (l.0, lawful-to t l.0 l.1)))
