-- How much can be left to earn, and what runs of an order earn. Assumes nothing.
use Rattle.std.proofs.Common.{◌≡◌, ap, cond, ⊎_elim, [], ◌∷◌, ◌++◌, ℕ, ◌+◌, ◌*◌, ◌<◌, ◌≤◌, arith, eqb, length, mul-suc, mul-le-mul_left}
use Rattle.std.proofs.lemmas.Bool.Decides.{nat_tests}
use Rattle.std.proofs.lemmas.List.Sums.{sum_by-append, sum_by-cons}
use Rattle.book.specs.Worths.{Meaning, Sound, top}
use Rattle.std.specs.Prelude.{sum_by}
use Rattle.common.specs.Sets.{has}
use Rattle.plan.proofs.Orders.{times-cons}
use Rattle.plan.proofs.Walks.{length-left}
use Rattle.plan.specs.Cells.{Cell, left}
use Rattle.plan.specs.Orders.{Continuation, Lawful, Order, expected, maximum, times}
use Rattle.plan.specs.Totals.{Runs, earned, earns}
use Rattle.sheet.specs.Tables.{Table, expected_of, load_of}

-- ---- sums are small

module _ (m : Meaning) (sound : Sound m) (t : Table) where
  pub earns-small : (k at : ℕ) → earns m t k at ≤ top
  earns-small k at = let b = sound.bounded k at in grind (arith, nat_tests)

  pub earned-small : (r : ℕ → ℕ) (from : ℕ) (o : Order) → earned m t r from o ≤ top * length o
  earned-small r from [] = omega arith
  earned-small r from (k ∷ o) = omega (arith, earns-small k (from + r k), earned-small r (from + r k) o, mul-suc top (length o))

  pub cell-small : (s v : ℕ) → Cell m t s v → v ≤ top * length t + 1
  cell-small s v c = ⊎_elim (λ z. omega arith) (λ r. most r.0 r.1 r.2) c.met
    where
      most : (o : Order) → Continuation t s o → v ≡ left m t s o + 1 → v ≤ top * length t + 1
      most o g e =
          let few : length o ≤ length t = omega (arith, length-left t s o g) in
          omega (arith, earned-small (expected t) (load_of expected_of t (has s)) o, mul-le-mul_left top few)

  -- ---- runs

  -- tasks that start no later and take no longer earn no less
  earned-sooner : (r r' : ℕ → ℕ) (o : Order) → ((k : ℕ) → 0 < times k o → r k ≤ r' k) → (from from' : ℕ) → from ≤ from' → earned m t r' from' o ≤ earned m t r from o
  earned-sooner r r' [] each from from' le = omega arith
  earned-sooner r r' (k ∷ o) each from from' le =
      let here = each k (omega (arith, times-here k o)) in
      let early : from + r k ≤ from' + r' k = omega arith in
      omega (
        arith,
        earns-falls k (from + r k) (from' + r' k) early,
        earned-sooner r r' o (λ j pos. each j (omega (arith, times-cons j k o))) (from + r k) (from' + r' k) early,
      )
    where
      earns-falls : (k a b : ℕ) → a ≤ b → earns m t k b ≤ earns m t k a
      earns-falls k a b le = let f = sound.falls k a b le in grind (arith, nat_tests)

      times-here : (k : ℕ) (o : Order) → times k (k ∷ o) ≡ 1 + times k o
      times-here k o = let c = times-cons k k o in grind (arith, nat_tests)

  sum-sooner : (r r' : ℕ → ℕ) (o : Order) → ((k : ℕ) → 0 < times k o → r k ≤ r' k) → sum_by r o ≤ sum_by r' o
  sum-sooner r r' [] each = omega arith
  sum-sooner r r' (k ∷ o) each = let c = times-cons k k o in
      omega (
        arith,
        sum_by-cons r k o,
        sum_by-cons r' k o,
        each k (grind (arith, nat_tests)),
        sum-sooner r r' o (λ j pos. each j (omega (arith, times-cons j k o))),
      )

  -- only tasks are listed
  listed : (o : Order) → Lawful t o → (k : ℕ) → 0 < times k o → k < length t
  listed o l k pos = let z = l.once k in grind (arith, nat_tests)

  pub runs-of : (o : Order) → Lawful t o → Runs m t o
  runs-of o l =
      record {
        earn = λ r each. earned-sooner r (expected t) o (λ k pos. each k (listed o l k pos)) 0 0 (omega arith);
        meet = λ r each before k behind d e kind.
            let z = l.deadlines before k behind d e kind in
            let here = each k (listed o l k (stands before k behind e)) in
            let sums = sum-sooner r (maximum t) before (λ j pos. each j (listed o l j (earlier before k behind j e pos))) in
            omega arith;
      }
    where
      times-in : (before behind : Order) (k j : ℕ) → times j (before ++ k ∷ behind) ≡ times j before + times j (k ∷ behind)
      times-in before behind k j = sum_by-append (λ x. cond (eqb x j) 1 0) before (k ∷ behind)

      stands : (before : Order) (k : ℕ) (behind : Order) → o ≡ before ++ k ∷ behind → 0 < times k o
      stands before k behind e = let c = times-cons k k behind in grind (arith, nat_tests, ap (times k) e, times-in before behind k k)

      earlier : (before : Order) (k : ℕ) (behind : Order) (j : ℕ) → o ≡ before ++ k ∷ behind → 0 < times j before → 0 < times j o
      earlier before k behind j e pos = omega (arith, ap (times j) e, times-in before behind k j)
