-- Arrays that a closure makes. Assumes nothing.
use Rattle.std.proofs.Common.{◌≡◌, List, ⊎_elim, ℕ, zero, suc, ◌+◌, ◌<◌, ◌≤◌, arith, get_or}
use Rattle.std.proofs.lemmas.Bool.{cases_eq, cases_lt}
use Rattle.std.proofs.lemmas.List.{get_or_past}
use Rattle.std.specs.Array.{IsFromFnResult, IsFromFnResultFrom}
use denote.Param.Members.{Mut, Called}

-- each call gives what P asks, and leaves the closure as it was
module _ {F B : Type 0} (g : Mut F (ℕ × Unit {0}) B) (P : ℕ → B → Type 0) (f : F) (few : ℕ) (step : (i : ℕ) (y : B) (f' : F) → i < few → Called g f (i, tt) y f' → P i y × (f' ≡ f)) where
  made_from : (ys : List B) (d : B) (i n : ℕ) → i + n ≤ few → IsFromFnResultFrom g f ys i n → (k : ℕ) → i ≤ k → k < i + n → P k (get_or ys k d)
  made_from ys d i zero in_few h k ge lt = absurd (omega arith)
  made_from ys d i (suc n) in_few (q, y, at, call, rest) k ge lt =
      let one = step i y q (omega arith) call in
      ⊎_elim
      (λ e. rw e (rw (at.1 d) one.0))
      (λ ne. made_from ys d (i + 1) n (omega arith) (rw one.1 at rest) k (omega arith) (omega arith))
      (cases_eq k i)

  -- so each element is what P asks, and past the end d is
  pub made_same : (ys : List B) (d : B) → IsFromFnResult g f ys few → ((k : ℕ) → few ≤ k → P k d) → (k : ℕ) → P k (get_or ys k d)
  made_same ys d made past k =
      ⊎_elim
      (λ lt. made_from ys d 0 few (omega arith) made.each k (omega arith) (omega arith))
      (λ ge. rw (get_or_past ys k d (omega (arith, made.long))) (past k ge))
      (cases_lt k few)
