-- Which tasks ask for a deadline, which of them leads, and which of its up-set is ready. Assumes nothing.
use Rattle.std.proofs.Common.{Decides, ◌≡◌, refl, true, false, not, ◌&&◌, ◌⊎◌, inl, inr, ⊎_elim, ℕ, zero, suc, ◌<◌, ◌≤◌, arith, length}
use Rattle.std.proofs.lemmas.Bool.{both_ways, not-true, not_from_false, true_from_ne_false, cases_Bool, cases_lt, cases_eq}
use Rattle.std.proofs.lemmas.Bool.Decides.{Decides-and, nat_tests}
use Rattle.std.proofs.lemmas.List.{get_or_past}
use Rattle.common.proofs.Sets.{any-decides, has-adding}
use Rattle.common.specs.Sets.{adding, any, has}
use Rattle.sheet.specs.Remaining.{asks}
use Rattle.sheet.proofs.Ancestors.{ancestors, fewer}
use Rattle.sheet.proofs.Paths.{Up, climb}
use Rattle.sheet.proofs.Rules.{Sound}
use Rattle.sheet.specs.Links.{one, more, linked}
use Rattle.sheet.specs.Margins.{due_by}
use Rattle.sheet.specs.Tables.{Table, blank, task_of}
use Rattle.sheet.specs.declared.table.Kind.{Kind}
use Rattle.sheet.specs.declared.table.Kind.TheVariants.{Plain, Soft, Hard}

-- ---- kinds

-- what ends by its own deadline, ends by each later time
pub due-time : (kind : Kind) (d end : ℕ) → due_by d kind ≡ true → ((last : ℕ) → kind ≡ Hard last → end ≤ last) → end ≤ d
due-time Plain d end e f = absurd (cc)
due-time Soft d end e f = absurd (cc)
due-time (Hard last) d end e f = let h = f last refl in grind (arith, nat_tests)

due-own : (kind : Kind) (d : ℕ) → kind ≡ Hard d → due_by d kind ≡ true
due-own kind d e = rw e (grind (arith, nat_tests))

-- of two kinds, one is due by each time by which the other is
due-order : (a b : Kind) → ((d : ℕ) → due_by d a ≡ true → due_by d b ≡ true) ⊎ ((d : ℕ) → due_by d b ≡ true → due_by d a ≡ true)
due-order Plain b = inl (λ d e. absurd (cc))
due-order Soft b = inl (λ d e. absurd (cc))
due-order (Hard x) Plain = inr (λ d e. absurd (cc))
due-order (Hard x) Soft = inr (λ d e. absurd (cc))
due-order (Hard x) (Hard y) = ⊎_elim (λ lt. inr (λ d e. grind (arith, nat_tests))) (λ ge. inl (λ d e. grind (arith, nat_tests))) (cases_lt x y)

-- ---- one member more

pub added : (s k : ℕ) → has (adding s k) k ≡ true
added s k = grind (arith, nat_tests, has-adding s k k)

pub stays : (s k u : ℕ) → has s u ≡ true → has (adding s k) u ≡ true
stays s k u e = grind (arith, nat_tests, has-adding s k u)

pub adding-cases : (s k u : ℕ) → has (adding s k) u ≡ true → (u ≡ k) ⊎ (has s u ≡ true)
adding-cases s k u e = ⊎_elim inl (λ ne. inr (grind (arith, nat_tests, has-adding s k u))) (cases_eq u k)

-- ---- what asks

-- only tasks ask
pub asks-task : (t : Table) (s d h : ℕ) → asks t s d h ≡ true → h < length t
asks-task t s d h e = ⊎_elim (λ lt. lt) (λ ge. let p = get_or_past t h blank ge in absurd (grind (arith, nat_tests))) (cases_lt h (length t))

-- a hard task outside the set asks at its own deadline
pub asks-own : (t : Table) (s d h : ℕ) → has s h ≡ false → (task_of t h).kind ≡ Hard d → asks t s d h ≡ true
asks-own t s d h out e = let own = due-own (task_of t h).kind d e in grind (arith, nat_tests)

-- a task that is put in asks no more, and no other changes
pub asks-after : (t : Table) (s k d h : ℕ) → asks t s d h ≡ true → (h ≡ k) ⊎ (asks t (adding s k) d h ≡ true)
asks-after t s k d h e = ⊎_elim inl (λ ne. inr (grind (arith, nat_tests, has-adding s k h))) (cases_eq h k)

pub asks-before : (t : Table) (s k d h : ℕ) → asks t (adding s k) d h ≡ true → asks t s d h ≡ true
asks-before t s k d h e = grind (arith, nat_tests, has-adding s k h)

-- ---- the task that leads

module _ (t : Table) where
  -- a task below n outside s, which asks where any such task does
  pub record Lead (s n h : ℕ) : Type 0 where
    pub task : h < n
    pub out : has s h ≡ false
    pub first : (d x : ℕ) → x < n → asks t s d x ≡ true → asks t s d h ≡ true

  first-more : (s n h : ℕ) → ((d x : ℕ) → x < n → asks t s d x ≡ true → asks t s d h ≡ true) → ((d : ℕ) → asks t s d n ≡ true → asks t s d h ≡ true)
      → (d x : ℕ) → x < suc n → asks t s d x ≡ true → asks t s d h ≡ true
  first-more s n h below here d x lt e = ⊎_elim (λ q. here d (rw q at e)) (λ ne. below d x (omega arith) e) (cases_eq x n)

  asks-too : (s h n : ℕ) → has s n ≡ false → ((d : ℕ) → due_by d (task_of t h).kind ≡ true → due_by d (task_of t n).kind ≡ true)
      → (d : ℕ) → asks t s d h ≡ true → asks t s d n ≡ true
  asks-too s h n out f d e = grind (arith, nat_tests, f d)

  -- there is one, or no task below n is left
  abbrev pub Leads : (s n : ℕ) → Type 0
  Leads s n = ((u : ℕ) → u < n → has s u ≡ true) ⊎ ((h : ℕ) × Lead s n h)

  lead-in : (s n : ℕ) → has s n ≡ true → Leads s n → Leads s (suc n)
  lead-in s n in' (inl all) = inl (λ u lt. ⊎_elim (λ q. rw q in') (λ ne. all u (omega arith)) (cases_eq u n))
  lead-in s n in' (inr (h, l)) = inr (h, record { task = omega (arith, l.task); out = l.out; first = first-more s n h l.first (λ d e. absurd (grind (arith, nat_tests))) })

  lead-out : (s n : ℕ) → has s n ≡ false → Leads s n → Leads s (suc n)
  lead-out s n out (inl all) =
      inr (n, record { task = omega arith; out = out; first = first-more s n n (λ d x lt e. absurd (grind (arith, nat_tests, all x lt))) (λ d e. e) })
  lead-out s n out (inr (h, l)) =
      inr (⊎_elim
      (λ f. (n, record { task = omega arith; out = out; first = first-more s n n (λ d x lt e. asks-too s h n out f d (l.first d x lt e)) (λ d e. e) }))
      (λ f. (h, record { task = omega (arith, l.task); out = l.out; first = first-more s n h l.first (asks-too s n h l.out f) }))
      (due-order (task_of t h).kind (task_of t n).kind))

  pub lead : (s n : ℕ) → Leads s n
  lead s zero = inl (λ u lt. absurd (omega arith))
  lead s (suc n) = ⊎_elim (λ e. lead-in s n e (lead s n)) (λ e. lead-out s n e (lead s n)) (cases_Bool (has s n))

-- ---- a task that is ready

module _ (t : Table) (r : Sound t) where
  -- a task of the up-set of h outside s, to which none is linked but members
  pub record Ready (s h u : ℕ) : Type 0 where
    pub out : has s u ≡ false
    pub ready : (a : ℕ) → linked t a u ≡ true → has s a ≡ true
    pub up : Up t u h

  missing : (s h : ℕ) → Decides (any (length t) (λ a. linked t a h && not (has s a))) ((a : ℕ) × (a < length t) × ((linked t a h ≡ true) × (has s a ≡ false)))
  missing s h =
      any-decides (length t) _ (λ a. (linked t a h ≡ true) × (has s a ≡ false))
      (λ a. Decides-and (linked t a h) (not (has s a)) (λ e. e, λ e. e) (not-true _, not_from_false _))

  ready-above : (s a h : ℕ) → linked t a h ≡ true → (u : ℕ) × Ready s a u → (u : ℕ) × Ready s h u
  ready-above s a h l k = (k.0, record { out = k.1.out; ready = k.1.ready; up = climb t k.1.up (inr (one l)) })

  ready-here : (s h : ℕ) → has s h ≡ false → any (length t) (λ a. linked t a h && not (has s a)) ≡ false → Ready s h h
  ready-here s h out e =
      record { out = out; ready = λ a l. true_from_ne_false _ (λ o. both_ways _ e ((missing s h).1 (a, (r.known a h l).0, (l, o)))); up = inl refl }

  -- h itself is ready, or a task that is above one linked to h, which has fewer above it
  pub ready : (n s h : ℕ) → ancestors t h < n → has s h ≡ false → (u : ℕ) × Ready s h u
  ready zero s h lt out = absurd (omega arith)
  ready (suc n) s h lt out =
      ⊎_elim
      (λ e. let m = (missing s h).0 e in ready-above s m.0 h m.2.0 (ready n s m.0 (omega (arith, fewer t r.known r.acyclic m.0 h m.2.0)) m.2.1))
      (λ e. (h, ready-here s h out e))
      (cases_Bool (any (length t) (λ a. linked t a h && not (has s a))))

  pub up-task : (u h : ℕ) → h < length t → Up t u h → u < length t
  up-task u h lt (inl e) = rw e lt
  up-task u h lt (inr (one l)) = (r.known _ _ l).0
  up-task u h lt (inr (more l p)) = (r.known _ _ l).0
