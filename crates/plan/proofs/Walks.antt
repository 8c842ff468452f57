-- The walk along the cells: the lowest task that reaches each cell's value makes the first of the best orders. Assumes nothing.
use Rattle.std.proofs.Common.{◌≡◌, ◌≢◌, refl, sym, ap, subst, ◌∙◌, true, false, ◌⊎◌, inl, inr, ⊎_elim, List, [], ◌∷◌, ◌++◌, ℕ, ◌+◌, ◌-◌, ◌^◌, ◌<◌, ◌≤◌, arith, length, get_or, get_or-set_other, set, take}
use Rattle.std.proofs.lemmas.Bool.{both_ways, cases_eq, cases_lt, cases_order}
use Rattle.std.proofs.lemmas.Bool.Decides.{nat_tests}
use Rattle.std.proofs.lemmas.List.{append-nil, append_assoc, take_more_set}
use Rattle.std.proofs.lemmas.Nat.{pow_pos}
use Rattle.book.specs.Worths.{Meaning}
use Rattle.common.proofs.Sets.{adding-below, all-counted, all-members, count-all, has-all, has-none, sum-adding, sum-none}
use Rattle.common.specs.Sets.{adding, has, sum_where}
use Rattle.plan.proofs.Greatest.{left-next}
use Rattle.plan.proofs.Orders.{end-all, ended, goes-on, lawful-from, lawful-to, went-may, went-rest}
use Rattle.plan.specs.Cells.{Cell, Filled, left}
use Rattle.plan.specs.Next.{First, Next, Worse}
use Rattle.plan.specs.Orders.{Continuation, Order, expected}
use Rattle.plan.specs.Totals.{Before, Best, earned, total}
use Rattle.sheet.specs.Tables.{Table, expected_of, task_of}

-- two orders are the same, or not
cases_same : (o p : Order) → (o ≡ p) ⊎ (o ≢ p)
cases_same [] [] = inl refl
cases_same [] (u ∷ p) = inr (λ e. cc)
cases_same (k ∷ o) [] = inr (λ e. cc)
cases_same (k ∷ o) (u ∷ p) =
    ⊎_elim
    (λ e. ⊎_elim (λ e'. inl (cc)) (λ ne. inr (λ q. ne (cc))) (cases_same o p))
    (λ ne. inr (λ q. ne (cc)))
    (cases_eq k u)

-- how many tasks the set has
abbrev pub members : Table → ℕ → ℕ
members t s = sum_where (has s) (λ _. 1) (length t)

pub length-left : (t : Table) (s : ℕ) (o : Order) → Continuation t s o → members t s + length o ≡ length t
length-left t s [] c = let z = count-all (has s) (length t) (end-all t s c) in omega arith
length-left t s (k ∷ o) c =
    let may = went-may t s k o c in
    omega (arith, length-left t (adding s k) o (went-rest t s k o c), sum-adding (λ _. 1) s k (length t) may.out may.task)

-- ---- the best of what may follow a set

module _ (m : Meaning) (t : Table) where
  -- o follows s, and every order that does leaves less, or the same and is o or comes later
  pub record BestAfter (s : ℕ) (o : Order) : Type 0 where
    pub follows : Continuation t s o
    pub first : (p : Order) → Continuation t s p → (left m t s p < left m t s o) ⊎ ((left m t s p ≡ left m t s o) × ((p ≡ o) ⊎ Before o p))

  pub best-end : (s : ℕ) → ((k : ℕ) → k < length t → has s k ≡ true) → BestAfter s []
  best-end s all = record { follows = ended t s all; first = first }
    where
      first : (p : Order) → Continuation t s p → (left m t s p < 0) ⊎ ((left m t s p ≡ 0) × ((p ≡ []) ⊎ Before [] p))
      first [] c = inr (refl, inl refl)
      first (k ∷ p) c = let may = went-may t s k p c in absurd (both_ways _ may.out (all k may.task))

  -- k is the first task with which the value v of the cell is reached: the best order after it, behind k, is the best order here
  pub best-next : (s k v : ℕ) (o : Order) → 0 < v → Cell m t s v → First m t s k v → BestAfter (adding s k) o → BestAfter s (k ∷ o)
  best-next s k v o pos cell f best = record { follows = follows; first = first }
    where
      some : (r : Order) × Continuation t s (k ∷ r) × (v ≡ left m t s (k ∷ r) + 1)
      some = ⊎_elim (λ z. absurd (omega arith)) (λ r. r) f.next.met

      out : has s k ≡ false
      out = (went-may t s k some.0 some.1).out

      follows : Continuation t s (k ∷ o)
      follows = goes-on t s k o (went-may t s k some.0 some.1) best.follows

      is : v ≡ left m t s (k ∷ o) + 1
      is =
          let b = cell.bound (k ∷ o) follows in
          let e = left-next m t s k some.0 f.task out in
          let e' = left-next m t s k o f.task out in
          ⊎_elim (λ less. omega (arith, some.2)) (λ same. omega (arith, some.2, same.0)) (best.first some.0 (went-rest t s k some.0 some.1))

      first : (p : Order) → Continuation t s p → (left m t s p < left m t s (k ∷ o)) ⊎ ((left m t s p ≡ left m t s (k ∷ o)) × ((p ≡ k ∷ o) ⊎ Before (k ∷ o) p))
      first [] c = absurd (both_ways _ out (end-all t s c k f.task))
      first (u ∷ p) c = ⊎_elim like (⊎_elim low high) (cases_order u k)
        where
          low : u < k → (left m t s (u ∷ p) < left m t s (k ∷ o)) ⊎ ((left m t s (u ∷ p) ≡ left m t s (k ∷ o)) × ((u ∷ p ≡ k ∷ o) ⊎ Before (k ∷ o) (u ∷ p)))
          low lt = let w = f.worse (u ∷ p) lt c in inl (omega (arith, is))

          high : k < u → (left m t s (u ∷ p) < left m t s (k ∷ o)) ⊎ ((left m t s (u ∷ p) ≡ left m t s (k ∷ o)) × ((u ∷ p ≡ k ∷ o) ⊎ Before (k ∷ o) (u ∷ p)))
          high lt =
              let b = cell.bound (u ∷ p) c in
              ⊎_elim inl (λ ge. inr (omega (arith, is), inr (inl lt))) (cases_lt (left m t s (u ∷ p)) (left m t s (k ∷ o)))

          like : u ≡ k → (left m t s (u ∷ p) < left m t s (k ∷ o)) ⊎ ((left m t s (u ∷ p) ≡ left m t s (k ∷ o)) × ((u ∷ p ≡ k ∷ o) ⊎ Before (k ∷ o) (u ∷ p)))
          like same =
              let c' = subst (λ x. Continuation t s (x ∷ p)) same c in
              let e = ap (λ x. left m t s (x ∷ p)) same ∙ left-next m t s k p f.task out in
              let e' = left-next m t s k o f.task out in
              ⊎_elim
              (λ less. inl (omega arith))
              (λ tie. inr (omega (arith, tie.0), ⊎_elim (λ q. inl (cc)) (λ b. inr (inr (sym same, b))) tie.1))
              (best.first p (went-rest t s k p c'))

  -- what the first such task leads to can go on
  alive-next : (s k v w : ℕ) → 0 < v → Next m t s k v → Cell m t (adding s k) w → 0 < w
  alive-next s k v w pos next cell =
      ⊎_elim (λ z. absurd (omega arith)) (λ r. let b = cell.bound r.0 (went-rest t s k r.0 r.1) in omega arith) next.met

  -- ---- no lower task reaches the value

  pub worse-none : (s v : ℕ) → Worse m t s 0 v
  worse-none s v [] b c = absurd b
  worse-none s v (k ∷ o) b c = absurd (omega arith)

  pub worse-more : (s n v w : ℕ) → Cell m t s v → Next m t s n w → w ≢ v → Worse m t s n v → Worse m t s (n + 1) v
  worse-more s n v w cell next ne worse [] b c = absurd b
  worse-more s n v w cell next ne worse (k ∷ o) b c =
      ⊎_elim
      (λ same.
      let c' = subst (λ x. Continuation t s (x ∷ o)) same c in
      let e = ap (λ x. left m t s (x ∷ o)) same in
      let b' = next.bound o c' in
      ⊎_elim (λ z. absurd (omega arith)) (λ r. let d = cell.bound (n ∷ r.0) r.1 in omega (arith, r.2)) next.met)
      (λ other. worse (k ∷ o) (omega arith) c)
      (cases_eq k n)

  -- at the last task, some task has reached it
  pub worse-all : (s v : ℕ) → s + 1 < 2 ^ length t → 0 < v → Cell m t s v → Worse m t s (length t) v → ⊥
  worse-all s v less pos cell worse = ⊎_elim (λ z. omega arith) (λ r. found r.0 r.1 r.2) cell.met
    where
      found : (o : Order) → Continuation t s o → v ≡ left m t s o + 1 → ⊥
      found [] c e = let q = all-members (length t) s (omega arith) (end-all t s c) in omega arith
      found (k ∷ o) c e = let w = worse (k ∷ o) ((went-may t s k o c).task) c in omega arith

  -- ---- the walk stands at the set s, of n tasks, which `order` has in its front: what is best from s on is, after them, best of all

  pub record Walked (cells before order : List ℕ) (s n : ℕ) : Type 0 where
    pub below : s < 2 ^ length t
    pub size : members t s ≡ n
    pub alive : 0 < get_or cells s 0
    pub leads : (o : Order) → BestAfter s o → BestAfter 0 (take n order ++ o)
    pub kept : (k : ℕ) → length t ≤ k → get_or order k 0 ≡ get_or before k 0

  pub walked-none : (cells order : List ℕ) → 0 < get_or cells 0 0 → Walked cells order order 0 0
  walked-none cells order h =
      record { below = pow_pos (length t); size = sum-none (has 0) (λ _. 1) (length t) (λ k lt. has-none k); alive = h; leads = λ o b. b; kept = λ k ge. refl }

  pub walked-more : (cells before order : List ℕ) (s k n : ℕ) → Walked cells before order s n → n < length t → length t ≤ length order → Filled m t cells → First m t s k (get_or cells s 0) → Walked cells before (set order n k) (adding s k) (n + 1)
  walked-more cells before order s k n w low wide filled f =
      record {
        below = below;
        size = omega (arith, sum-adding (λ _. 1) s k (length t) out f.task, w.size);
        alive = alive-next s k (get_or cells s 0) (get_or cells (adding s k) 0) w.alive f.next (filled (adding s k) below);
        leads = λ o best.
            subst (BestAfter 0) (sym (ap (λ p. p ++ o) (take_more_set order n k (omega arith)) ∙ append_assoc (take n order) (k ∷ []) o))
            (w.leads (k ∷ o) (best-next s k (get_or cells s 0) o w.alive (filled s w.below) f best));
        kept = λ j ge. get_or-set_other order n j k 0 (omega arith) ∙ w.kept j ge;
      }
    where
      out : has s k ≡ false
      out = ⊎_elim (λ z. let a = w.alive in absurd (omega arith)) (λ r. (went-may t s k r.0 r.1).out) f.next.met

      below : adding s k < 2 ^ length t
      below = adding-below (length t) s k w.below f.task

  -- it ends with all tasks
  pub walked-all : (cells before order : List ℕ) (s n : ℕ) → Walked cells before order s n → n ≡ length t → BestAfter 0 (take (length t) order)
  walked-all cells before order s n w e =
      subst (BestAfter 0) (append-nil (take n order) ∙ ap (λ i. take i order) e)
      (w.leads [] (best-end s (all-counted (has s) (length t) (w.size ∙ e))))

  -- and goes on until then
  pub walked-short : (cells before order : List ℕ) (s n : ℕ) → Walked cells before order s n → n < length t → s + 1 < 2 ^ length t
  walked-short cells before order s n w lt =
      ⊎_elim (λ less. less) (λ (ge : 2 ^ length t ≤ s + 1). absurd (whole (omega (arith, w.below)))) (cases_lt (s + 1) (2 ^ length t))
    where
      whole : s ≡ 2 ^ length t - 1 → ⊥
      whole e = omega (arith, count-all (has s) (length t) (λ k h. rw e (all k h)), w.size)
        where
          all : (k : ℕ) → k < length t → has (2 ^ length t - 1) k ≡ true
          all k h = let q = has-all (length t) k in grind (arith, nat_tests)

  -- ---- the best order

  left-total : (o : Order) → left m t 0 o ≡ total m t o
  left-total o = ap (λ a. earned m t (expected t) a o) (sum-none (has 0) (λ j. expected_of (task_of t j)) (length t) (λ k lt. has-none k))

  pub best-of : (o : Order) → BestAfter 0 o → Best m t o
  best-of o b =
      record {
        lawful = lawful-from t o b.follows;
        first = λ p l ne.
            let e = left-total p in
            let e' = left-total o in
            ⊎_elim
            (λ less. inl (omega arith))
            (λ same. inr (omega (arith, same.0), ⊎_elim (λ q. absurd (ne q)) (λ x. x) same.1))
            (b.first p (lawful-to t p l));
      }

  -- the value of the first cell is one more than the total of the best order
  pub best-total : (v : ℕ) (o : Order) → Cell m t 0 v → Best m t o → v ≡ total m t o + 1
  best-total v o cell b =
      let low = cell.bound o (lawful-to t o b.lawful) in
      let e = left-total o in
      ⊎_elim (λ z. absurd (omega arith)) (λ r. most r.0 r.1 r.2) cell.met
    where
      most : (p : Order) → Continuation t 0 p → v ≡ left m t 0 p + 1 → v ≡ total m t o + 1
      most p c e =
          let low = cell.bound o (lawful-to t o b.lawful) in
          let e' = left-total o in
          let e'' = left-total p in
          ⊎_elim
          (λ q. omega (arith, ap (total m t) q))
          (λ ne. ⊎_elim (λ less. omega arith) (λ same. omega (arith, same.0)) (b.first p (lawful-from t p c) ne))
          (cases_same p o)

  -- ---- no two orders are the best

  not-both : (o p : Order) → Before o p → Before p o → ⊥
  not-both [] [] h k = h
  not-both [] (u ∷ p) h k = k
  not-both (x ∷ o) [] h k = h
  not-both (x ∷ o) (u ∷ p) h k =
      ⊎_elim
      (λ lt. ⊎_elim (λ gt. omega arith) (λ e. let q = e.0 in omega arith) k)
      (λ e. let q = e.0 in ⊎_elim (λ gt. omega arith) (λ e'. not-both o p e.1 e'.1) k)
      h

  pub best-one : (o p : Order) → Best m t o → Best m t p → o ≡ p
  best-one o p b b' =
      ⊎_elim (λ e. e)
      (λ ne. absurd (⊎_elim
      (λ less. ⊎_elim (λ more. omega arith) (λ same. omega (arith, same.0)) (b'.first o b.lawful ne))
      (λ same. ⊎_elim (λ more. omega (arith, same.0)) (λ same'. not-both o p same.1 same'.1) (b'.first o b.lawful ne))
      (b.first p b'.lawful (λ e. ne (sym e)))))
      (cases_same o p)
