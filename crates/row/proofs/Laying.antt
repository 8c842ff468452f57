-- A row that some lawful order begins with: its tasks in turn, its set, and what may follow it. Assumes nothing.
use Rattle.std.proofs.Common.{◌≡◌, refl, true, false, ◌||◌, [], ◌∷◌, ◌++◌, ℕ, ◌+◌, ◌<◌, arith, ltb, length}
use Rattle.std.proofs.lemmas.Bool.Decides.{nat_tests}
use Rattle.std.proofs.lemmas.List.{append_assoc, length-append}
use Rattle.std.proofs.lemmas.List.Sums.{sum_by-cons}
use Rattle.std.proofs.lemmas.Nat.{ones_le_self}
use Rattle.std.proofs.Props.{props}
use Rattle.std.specs.Int.RustNames.{count_ones}
use Rattle.std.specs.Prelude.{sum_by}
use mathlib.Core.Logic.{∥∥₁_elim}
use Rattle.common.proofs.Sets.{has-adding, has-none, ones-adding, sum-adding, sum-none}
use Rattle.common.specs.Sets.{adding, has}
use Rattle.plan.proofs.Fitting.{closed-adding, closed-none, fits-after, fits-may}
use Rattle.plan.proofs.Orders.{ended, goes-on, lawful-from, lawful-to, times-cons, went-may, went-rest}
use Rattle.plan.proofs.Walks.{length-left}
use Rattle.plan.specs.Next.{May}
use Rattle.plan.specs.Orders.{Continuation, Lawful, Order, times}
use Rattle.row.specs.Rows.{Leads, joined, set_of}
use Rattle.sheet.proofs.Rules.{Sound}
use Rattle.sheet.specs.Links.{Closed, linked}
use Rattle.sheet.specs.Remaining.{FitsAfter}
use Rattle.sheet.specs.Tables.{Table, load_of, task_of}
use Rattle.sheet.specs.declared.table.Task.{Task}

-- ---- the set of a row

pub joined-more : (s k : ℕ) (row : Order) → joined s (row ++ k ∷ []) ≡ adding (joined s row) k
joined-more s k [] = refl
joined-more s k (x ∷ row) = joined-more (adding s x) k row

joined-has : (s u : ℕ) (row : Order) → has (joined s row) u ≡ (has s u || ltb 0 (times u row))
joined-has s u [] = grind (arith, nat_tests)
joined-has s u (x ∷ row) = grind (arith, nat_tests, joined-has (adding s x) u row, has-adding s x u, times-cons u x row)

-- it has the tasks of the row
pub set_has : (u : ℕ) (row : Order) → has (set_of row) u ≡ ltb 0 (times u row)
set_has u row = grind (arith, nat_tests, joined-has 0 u row, has-none u)

module _ (t : Table) where
  -- ---- a row in turn

  -- each task of the row may come next in its turn, after the tasks of s and those before it
  abbrev pub InTurn : ℕ → Order → Type 0
  InTurn s [] = Unit {0}
  InTurn s (k ∷ row) = May t s k × InTurn (adding s k) row

  in-turn-prop : (s : ℕ) (row : Order) → IsProp (InTurn s row)
  in-turn-prop s [] = hlevel props
  in-turn-prop s (k ∷ row) = let later = in-turn-prop (adding s k) row in hlevel props

  in-turn : (s : ℕ) (row o : Order) → Continuation t s (row ++ o) → InTurn s row
  in-turn s [] o c = tt
  in-turn s (k ∷ row) o c = (went-may t s k (row ++ o) c, in-turn (adding s k) row o (went-rest t s k (row ++ o) c))

  -- what follows a row, follows its set
  rest-of : (s : ℕ) (row o : Order) → Continuation t s (row ++ o) → Continuation t (joined s row) o
  rest-of s [] o c = c
  rest-of s (k ∷ row) o c = rest-of (adding s k) row o (went-rest t s k (row ++ o) c)

  with-rest : (s : ℕ) (row o : Order) → InTurn s row → Continuation t (joined s row) o → Continuation t s (row ++ o)
  with-rest s [] o turn c = c
  with-rest s (k ∷ row) o turn c = goes-on t s k (row ++ o) turn.0 (with-rest (adding s k) row o turn.1 c)

  closed-joined : (s : ℕ) (row : Order) → InTurn s row → Closed t s → Closed t (joined s row)
  closed-joined s [] turn c = c
  closed-joined s (k ∷ row) turn c = closed-joined (adding s k) row turn.1 (closed-adding t s k c turn.0)

  ones-joined : (s : ℕ) (row : Order) → InTurn s row → count_ones (joined s row) ≡ count_ones s + length row
  ones-joined s [] turn = omega arith
  ones-joined s (k ∷ row) turn = omega (arith, ones-joined (adding s k) row turn.1, ones-adding s k turn.0.out)

  sum-joined : (f : Task → ℕ) (s : ℕ) (row : Order) → InTurn s row → load_of f t (has (joined s row)) ≡ load_of f t (has s) + sum_by (λ k. f (task_of t k)) row
  sum-joined f s [] turn = omega arith
  sum-joined f s (k ∷ row) turn =
      omega (
        arith,
        sum-joined f (adding s k) row turn.1,
        sum-adding (λ j. f (task_of t j)) s k (length t) turn.0.out turn.0.task,
        sum_by-cons (λ j. f (task_of t j)) k row,
      )

  -- ---- a row that leads on

  pub follows : (row o : Order) → Lawful t (row ++ o) → Continuation t (set_of row) o
  follows row o l = rest-of 0 row o (lawful-to t (row ++ o) l)

  turns : (row o : Order) → Lawful t (row ++ o) → InTurn 0 row
  turns row o l = in-turn 0 row o (lawful-to t (row ++ o) l)

  pub length-row : (row o : Order) → Lawful t (row ++ o) → length row + length o ≡ length t
  length-row row o l =
      let whole = length-left t 0 (row ++ o) (lawful-to t (row ++ o) l) in
      omega (arith, whole, sum-none (has 0) (λ _. 1) (length t) (λ k lt. has-none k), length-append row o)

  pub set-closed : (row : Order) → Leads t row → Closed t (set_of row)
  set-closed row x = closed-joined 0 row (turns row x.0 x.1) (closed-none t)

  pub set-counts : (row : Order) → Leads t row → count_ones (set_of row) ≡ length row
  set-counts row x = omega (arith, ones-joined 0 row (turns row x.0 x.1), ones_le_self 0)

  pub set-loads : (f : Task → ℕ) (row : Order) → Leads t row → load_of f t (has (set_of row)) ≡ sum_by (λ k. f (task_of t k)) row
  set-loads f row x = omega (arith, sum-joined f 0 row (turns row x.0 x.1), sum-none (has 0) (λ k. f (task_of t k)) (length t) (λ k lt. has-none k))

  pub short : (row : Order) (k : ℕ) → Leads t (row ++ k ∷ []) → length row < length t
  short row k x = omega (arith, length-row (row ++ k ∷ []) x.0 x.1, length-append row (k ∷ []))

  -- a front of what leads on leads on
  pub front : (row o : Order) → Leads t (row ++ o) → Leads t row
  front row o x = (o ++ x.0, rw (← append_assoc row o x.0) x.1)

  pub next-may : (row : Order) (k : ℕ) → Leads t (row ++ k ∷ []) → May t (set_of row) k
  next-may row k x = went-may t (set_of row) k x.0 (follows row (k ∷ x.0) (rw (← append_assoc row (k ∷ []) x.0) x.1))

  -- ---- by margins

  module _ (r : Sound t) where
    pub leads-fits : (row : Order) → Leads t row → FitsAfter t (set_of row)
    leads-fits row x = (fits-after t r (set_of row) (set-closed row x)).1 (x.0, follows row x.0 x.1)

    -- that there is a lawful order gives one
    pub leads-of : (row : Order) → ∥ Leads t row ∥₁ → Leads t row
    leads-of row some = (c.0, lawful-from t (row ++ c.0) (with-rest 0 row c.0 turn c.1))
      where
        turn : InTurn 0 row
        turn = ∥∥₁_elim some (in-turn-prop 0 row) (λ x. turns row x.0 x.1)

        fits : FitsAfter t (set_of row)
        fits = ∥∥₁_elim some (hlevel props) (leads-fits row)

        c : (o : Order) × Continuation t (set_of row) o
        c = (fits-after t r (set_of row) (closed-joined 0 row turn (closed-none t))).0 fits

    -- the row with one task more leads on where the task is ready and what is left after it fits, and only there
    module _ (row : Order) (k : ℕ) where
      pub more-leads : Leads t row → k < length t → has (set_of row) k ≡ false → ((a : ℕ) → linked t a k ≡ true → has (set_of row) a ≡ true) → FitsAfter t (adding (set_of row) k)
          → Leads t (row ++ k ∷ [])
      more-leads x lt out ready fits = (c.0, rw (append_assoc row (k ∷ []) c.0) (lawful-from t (row ++ k ∷ c.0) whole))
        where
          may : May t (set_of row) k
          may = fits-may t r (set_of row) k lt out ready (leads-fits row x)

          c : (o : Order) × Continuation t (adding (set_of row) k) o
          c = (fits-after t r (adding (set_of row) k) (closed-adding t (set_of row) k (set-closed row x) may)).0 fits

          whole : Continuation t 0 (row ++ k ∷ c.0)
          whole = with-rest 0 row (k ∷ c.0) (turns row x.0 x.1) (goes-on t (set_of row) k c.0 may c.1)

      pub more-fits : Leads t (row ++ k ∷ []) → May t (set_of row) k × FitsAfter t (adding (set_of row) k)
      more-fits x = (next-may row k x, rw (← joined-more 0 k row) (leads-fits (row ++ k ∷ []) x))

-- ---- orders

-- a sheet without tasks has the empty order
pub empty-leads : Leads [] []
empty-leads = ([], lawful-from [] [] (ended [] 0 (λ k lt. absurd (omega arith))))

-- that an order is lawful, shown of a full row
pub lawful-of : (t : Table) (o : Order) → ∥ Lawful t o ∥₁ → Lawful t o
lawful-of t o l = ∥∥₁_elim l (hlevel props) (λ x. x)
