-- That the comparisons of ranks are orders, which each impl of `Rank` shows. No contract cites them. Assumes nothing.
use Rattle.std.proofs.Common.{◌≡◌, refl, Bool, true, false, Option, Some, None, ℕ, ◌*◌, ◌≤◌, ◌<◌, mul_comm, mul_assoc, mul-le-mul_right, le_of_mul-le-mul_right, arith, le-ltb, ltb-false, nat_lt}
use Rattle.std.proofs.lemmas.Bool.{false≢true, true≢false}
use Rattle.std.proofs.lemmas.Grind.{common_steps}
use Rattle.std.specs.Cmp.{IsStrictWeakOrder}
use Rattle.common.specs.Ranks.{or_absent}

-- ranks of which some are absent
module _ {R : Type 0} {beats : R → R → Bool} where
  pub present-one_way : ((x y : R) → beats x y ≡ true → beats y x ≡ false) → (x y : Option R) → or_absent beats x y ≡ true → or_absent beats y x ≡ false
  present-one_way law (Some x) (Some y) e = law x y e
  present-one_way law (Some x) None e = refl
  present-one_way law None y e = absurd (false≢true e)

  pub present-chain : ((x y z : R) → beats x y ≡ false → beats y z ≡ false → beats x z ≡ false) → (x y z : Option R) → or_absent beats x y ≡ false → or_absent beats y z ≡ false → or_absent beats x z ≡ false
  present-chain law (Some x) (Some y) (Some z) d e = law x y z d e
  present-chain law (Some x) (Some y) None d e = absurd (true≢false e)
  present-chain law (Some x) None z d e = absurd (true≢false d)
  present-chain law None y z d e = refl

  pub present-ordered : IsStrictWeakOrder beats → IsStrictWeakOrder (or_absent beats)
  present-ordered order = record { one_way = present-one_way order.one_way; chain = present-chain order.chain }

-- a/p ≤ b/q and b/q ≤ c/r, so a/p ≤ c/r
cross : (a p b q c r : ℕ) → 0 < q → a * q ≤ b * p → b * r ≤ c * q → a * r ≤ c * p
cross a p b q c r pos h k =
    let x : a * q * r ≤ b * p * r = mul-le-mul_right r h in
    let y : b * r * p ≤ c * q * p = mul-le-mul_right p k in
    let e : a * r * q ≡ a * q * r = simp (mul_assoc, mul_comm r q) in
    let f : b * p * r ≡ b * r * p = simp (mul_assoc, mul_comm p r) in
    let g : c * q * p ≡ c * p * q = simp (mul_assoc, mul_comm q p) in
    let z : a * r * q ≤ c * p * q = omega arith in
    le_of_mul-le-mul_right z pos

pub cross-chain : (a p b q c r : ℕ) → 0 < q → nat_lt (b * p) (a * q) ≡ false → nat_lt (c * q) (b * r) ≡ false → nat_lt (c * p) (a * r) ≡ false
cross-chain a p b q c r pos h k = le-ltb _ _ (cross a p b q c r pos (ltb-false _ _ h) (ltb-false _ _ k))

-- fractions by cross products, where no denominator is 0
pub fractions-ordered : {F : Type 0} (num den : F → ℕ) → ((f : F) → 0 < den f) → IsStrictWeakOrder (λ x y. nat_lt (num y * den x) (num x * den y))
fractions-ordered num den whole =
    record {
      one_way = λ x y h. grind (arith, common_steps);
      chain = λ x y z. cross-chain (num x) (den x) (num y) (den y) (num z) (den z) (whole y);
    }
