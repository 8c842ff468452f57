-- A plan that is given the front of each memory leaves what is behind. Assumes nothing.
use Rattle.std.proofs.Common.{◌≡◌, sym, ap, ◌∙◌, ⊎_elim, List, ◌++◌, ℕ, arith, length, take, drop, min, Result}
use Rattle.std.proofs.lemmas.Bool.{cases_lt}
use Rattle.std.proofs.Math.Seq.{drop-append_seam, take-append_seam}
use Rattle.std.proofs.lemmas.List.{append-nil, drop_all, length-take-le, take_all}
use Rattle.book.specs.Worths.{Meaning}
use Rattle.common.specs.declared.refusal.Refusal.{Refusal}
use Rattle.history.specs.Histories.{Left}
use Rattle.history.specs.declared.Call.TheVariants.{Plan}
use Rattle.plan.specs.Planned.{Planned}
use Rattle.sheet.specs.Tables.{Table}

-- ys stands in place of the first n elements of xs, or of all of them where there are fewer
module _ (n p : ℕ) (xs ys : List ℕ) (is : p ≡ min n (length xs)) (same : length ys ≡ length (take p xs)) where
  long : length ys ≡ p
  long = same ∙ length-take-le p xs (omega arith)

  front : take p xs ≡ take n xs
  front = ⊎_elim (λ lt. ap (λ i. take i xs) (omega (arith, long))) (λ ge. take_all p xs (omega (arith, long)) ∙ sym (take_all n xs ge)) (cases_lt n (length xs))

  new-front : take n (ys ++ drop p xs) ≡ ys
  new-front =
      ⊎_elim
      (λ lt. let e : n ≡ length ys = omega (arith, long) in rw e (take-append_seam ys (drop p xs)))
      (λ ge. rw (drop_all p xs (omega (arith, long)), append-nil ys) (take_all n ys (omega (arith, long))))
      (cases_lt n (length xs))

  behind : drop n (ys ++ drop p xs) ≡ drop n xs
  behind =
      ⊎_elim
      (λ lt. let e : n ≡ length ys = omega (arith, long) in let f : p ≡ length ys = omega (arith, long) in rw (e, f) (drop-append_seam ys (drop (length ys) xs)))
      (λ ge. rw (drop_all p xs (omega (arith, long)), append-nil ys) (drop_all n ys (omega (arith, long)) ∙ sym (drop_all n xs ge)))
      (cases_lt n (length xs))

module _ (m : Meaning) (t : Table) (n k p q : ℕ) (cells order ys zs : List ℕ) (r : Result ℕ Refusal) where
  pub left : p ≡ min n (length cells) → q ≡ min k (length order) → length ys ≡ length (take p cells) → length zs ≡ length (take q order) → Planned m t (take p cells) ys (take q order) zs r
      → Left m t (Plan n k) cells (ys ++ drop p cells) order (zs ++ drop q order)
  left a b c d h = (r, rw (← front n p cells ys a c, new-front n p cells ys a c, ← front k q order zs b d, new-front k q order zs b d) h, behind n p cells ys a c, behind k q order zs b d)
