-- A deadline may come earlier by what is left of it. Assumes nothing.
use Rattle.std.proofs.Common.{◌≡◌, refl, sym, ap, ap₂, subst, ◌∙◌, Bool, true, false, ◌&&◌, ◌==◌, ℕ, zero, suc, ◌+◌, ◌-◌, ◌≤◌, ◌<◌, arith, cond, eqb, length, set, pos, ◌-ℤ◌, ◌≤ℤ◌, Option, Some, None, option_map, ⊎_elim, length-set, get_or-set_other}
use Rattle.std.proofs.lemmas.Bool.{cases_lt, cases_eq}
use Rattle.std.proofs.lemmas.Bool.Decides.{nat_tests}
use Rattle.std.proofs.lemmas.Grind.{common_steps, get_or-set_at}
use Rattle.std.proofs.lemmas.Int.{ints}
use Rattle.common.proofs.Sets.{sum-within}
use Rattle.common.specs.Sets.{any, has, sum_where}
use Rattle.common.specs.declared.ticks.Margin.{Margin}
use Rattle.sheet.proofs.Rules.{linked-put}
use Rattle.common.specs.Refusals.{kept_unless}
use Rattle.sheet.specs.Calls.{Called, after, changed, verdict, with_kind}
use Rattle.sheet.specs.declared.call.Call.{Call}
use Rattle.sheet.specs.Links.{linked, reaches, up, via}
use Rattle.sheet.specs.Margins.{Fits, deadline_of, demand, due_by, left_at, margin_for, margin_of, needed}
use Rattle.sheet.specs.Tables.{Table, blank, load_of, maximum_of, task_of}
use Rattle.sheet.specs.declared.call.Call.TheVariants.{Hard as hard}
use Rattle.sheet.specs.declared.table.Kind.{Kind}
use Rattle.sheet.specs.declared.table.Kind.TheVariants.{Plain, Soft, Hard}
use Rattle.sheet.specs.declared.table.Task.{Task}

any-within : (n : ℕ) (p q : ℕ → Bool) → ((k : ℕ) → p k ≡ true → q k ≡ true) → any n p ≡ true → any n q ≡ true
any-within zero p q f h = h
any-within (suc n) p q f h = grind (arith, common_steps, any-within n p q f, f n)

-- a margin is not below 0 where the demand is at most the deadline, and the other way round
met-to : (t : Table) (kind : Kind) → ((d : ℕ) → kind ≡ Hard d → demand t d ≤ d) → (m : Margin) → margin_for t kind ≡ Some m → pos 0 ≤ℤ m.0
met-to t Plain f m h = absurd (cc)
met-to t Soft f m h = absurd (cc)
met-to t (Hard d) f m h =
    let low = f d refl in
    let is : left_at t d ≡ m = cc in
    subst (λ (x : Margin). pos 0 ≤ℤ x.0) is (grind (arith, ints))

met-from : (t : Table) → Fits t → (k d : ℕ) → (task_of t k).kind ≡ Hard d → demand t d ≤ d
met-from t fits k d e = let low = fits k (left_at t d) (ap (margin_for t) e) in grind (arith, ints)

module _ (t : Table) (k : ℕ) (there : k < length t) (d : ℕ) where
  -- the table with the deadline
  u : Table
  u = set t k (with_kind (Hard d) (task_of t k))

  count : length u ≡ length t
  unfolding u
  count = length-set t k (with_kind (Hard d) (task_of t k))

  kind-same : (j : ℕ) → j ≡ k → (task_of u j).kind ≡ Hard d
  unfolding u
  kind-same j e = rw (get_or-set_at t k j (with_kind (Hard d) (task_of t k)) blank e there) refl

  others : (j : ℕ) → (j ≡ k → ⊥) → task_of u j ≡ task_of t j
  unfolding u
  others j ne = get_or-set_other t k j (with_kind (Hard d) (task_of t k)) blank ne

  takes : (j : ℕ) → maximum_of (task_of u j) ≡ maximum_of (task_of t j)
  unfolding u maximum_of
  takes j = ⊎_elim (λ e. rw (get_or-set_at t k j (with_kind (Hard d) (task_of t k)) blank e there) (rw e refl)) (λ ne. ap maximum_of (others j ne)) (cases_eq j k)

  links : (a b : ℕ) → linked u a b ≡ linked t a b
  unfolding u linked
  links a b = grind (arith, nat_tests, linked-put t k (with_kind (Hard d) (task_of t k)) there a b)

  vias : (n a b : ℕ) → via u n a b ≡ via t n a b
  unfolding via
  vias zero a b = links a b
  vias (suc n) a b = grind (arith, common_steps, vias n a b, vias n a n, vias n n b)

  ups : (a b : ℕ) → up u a b ≡ up t a b
  unfolding up reaches
  ups a b = rw count (rw (vias (length t) a b) refl)

  -- where what is due by e is due by f
  module _ (e f : ℕ) (due : (h : ℕ) → due_by e (task_of u h).kind ≡ true → due_by f (task_of t h).kind ≡ true) where
    need : (v : ℕ) → needed u e v ≡ true → needed t f v ≡ true
    unfolding needed
    need v h = any-within (length t) _ _ (λ j g. grind (arith, common_steps, due j, ups v j, g)) (rw count at h)

    demands : demand u e ≤ demand t f
    unfolding demand
    demands =
        let same : load_of maximum_of u (needed u e) ≡ sum_where (needed u e) (λ j. maximum_of (task_of t j)) (length t) =
        ap₂ (sum_where (needed u e)) (λ i j. takes j i) count in
        rw same (sum-within (needed u e) (needed t f) (λ j. maximum_of (task_of t j)) need (length t))

-- the deadline of a hard task comes earlier, but not before the demand at it
module _ (t : Table) (fits : Fits t) (k : ℕ) (there : k < length t) (deadline : ℕ) (is : (task_of t k).kind ≡ Hard deadline) (d : ℕ) (early : d ≤ deadline) (late : demand t deadline ≤ d) where
  -- what is due by `last` there is due by `f` here
  due : (last f : ℕ) → last ≤ f → (d ≤ last → deadline ≤ f) → (h : ℕ) → due_by last (task_of (u t k there d) h).kind ≡ true → due_by f (task_of t h).kind ≡ true
  due last f up own h e =
      ⊎_elim
      (λ same. let here = rw (kind-same t k there d h same) at e in rw same (rw is (grind (arith, nat_tests, own))))
      (λ other. later (task_of t h).kind (rw (others t k there d h other) at e))
      (cases_eq h k)
    where
      later : (kind : Kind) → due_by last kind ≡ true → due_by f kind ≡ true
      later Plain h = h
      later Soft h = h
      later (Hard x) h = grind (arith, nat_tests)

  within : (last f : ℕ) → last ≤ f → (d ≤ last → deadline ≤ f) → demand (u t k there d) last ≤ demand t f
  within last f le own = demands t k there d last f (due last f le own)

  met : (v last : ℕ) → (task_of (u t k there d) v).kind ≡ Hard last → demand (u t k there d) last ≤ last
  met v last e = ⊎_elim own other (cases_eq v k)
    where
      own : v ≡ k → demand (u t k there d) last ≤ last
      own same =
          let at : Hard last ≡ Hard d = sym e ∙ kind-same t k there d v same in
          let now : last ≡ d = cc in
          omega (arith, within last deadline (omega arith) (λ _. omega arith), late, now)

      other : (v ≡ k → ⊥) → demand (u t k there d) last ≤ last
      other ne =
          let here : demand t last ≤ last = met-from t fits v last (ap (λ (x : Task). x.kind) (sym (others t k there d v ne)) ∙ e) in
          ⊎_elim
          (λ before. ⊎_elim
          (λ lt. omega (arith, within last last (omega arith) (λ ge. omega arith), here))
          (λ ge. omega (arith, within last deadline (omega arith) (λ _. omega arith), late))
          (cases_lt last d))
          (λ ge. omega (arith, within last last (omega arith) (λ _. ge), here))
          (cases_lt last deadline)

  still : Fits (u t k there d)
  still v m h = met-to (u t k there d) (task_of (u t k there d) v).kind (met v) m h

  pub sooner : Fits (after t (hard k d))
  unfolding u
  sooner = choose (verdict t (hard k d) == 0) still fits
    where
      choose : (b : Bool) → Fits (u t k there d) → Fits t → Fits (cond b (u t k there d) t)
      choose true x y = x
      choose false x y = y

-- what is at least this much before the deadline
spent : (t : Table) (kind : Kind) (deadline : ℕ) → kind ≡ Hard deadline → (left : Margin) → margin_for t kind ≡ Some left → (by : ℕ) → pos by ≤ℤ left.0 → demand t deadline + by ≤ deadline
spent t kind deadline is left has by enough =
    let at : Some (left_at t deadline) ≡ Some left = sym (ap (margin_for t) is) ∙ has in
    let same : left_at t deadline ≡ left = cc in
    let more = subst (λ (x : Margin). pos by ≤ℤ x.0) (sym same) enough in
    grind (arith, ints)

pub spending : (t : Table) (k : ℕ) → k < length t → (deadline : ℕ) → (task_of t k).kind ≡ Hard deadline → (left : Margin) → margin_of t k ≡ Some left → (by : ℕ) → pos by ≤ℤ left.0 → Fits t → Fits (after t (hard k (deadline - by)))
spending t k there deadline is left has by enough fits =
    let room = spent t (task_of t k).kind deadline is left has by enough in
    sooner t fits k there deadline is (deadline - by) (omega arith) (omega (arith, room))

-- what a call leaves is what is said to be after it
pub left-after : (t v : Table) (c : Call) (n : ℕ) → Called t v c n → v ≡ after t c
left-after t v c n a = a.leaves ∙ ap (λ n. kept_unless n (changed t c) t) a.says
