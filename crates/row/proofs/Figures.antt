-- The figures of a row with one task more. Assumes nothing.
use Rattle.std.proofs.Common.{◌≡◌, sym, ap, ◌∙◌, [], ◌∷◌, ◌++◌, ℕ, ◌+◌, ◌^◌, ◌<◌, ◌≤◌, arith, length, mul-le-mul_left}
use Rattle.std.proofs.lemmas.List.Sums.{sum_by-cons, sum_by_push}
use Rattle.std.specs.Prelude.{sum_by}
use Rattle.book.specs.Worths.{Meaning, Sound as SoundMeaning, top}
use Rattle.common.specs.Sets.{adding, has}
use Rattle.plan.proofs.Runs.{earned-small}
use Rattle.plan.specs.Orders.{Order, expected, maximum}
use Rattle.plan.specs.Totals.{earned, earns, total}
use Rattle.row.proofs.Laying.{joined-more, length-row, set-loads}
use Rattle.row.specs.Rows.{Leads, set_of}
use Rattle.row.specs.Tallies.{Adds, Tells}
use Rattle.row.specs.declared.tally.Tally.{Tally}
use Rattle.sheet.proofs.Loads.{expected-small, maximum-small}
use Rattle.sheet.proofs.Rules.{Sound}
use Rattle.sheet.specs.Tables.{Table, expected_of, maximum_of}

module _ (m : Meaning) (t : Table) where
  earned-more : (r : ℕ → ℕ) (from : ℕ) (row : Order) (k : ℕ) → earned m t r from (row ++ k ∷ []) ≡ earned m t r from row + earns m t k (from + sum_by r row + r k)
  earned-more r from [] k = let at : from + sum_by r [] + r k ≡ from + r k = omega arith in omega (arith, ap (earns m t k) at)
  earned-more r from (x ∷ row) k =
      let at : from + r x + sum_by r row + r k ≡ from + sum_by r (x ∷ row) + r k = omega (arith, sum_by-cons r x row) in
      omega (arith, earned-more r (from + r x) row k, ap (earns m t k) at)

  total-more : (row : Order) (k : ℕ) → total m t (row ++ k ∷ []) ≡ total m t row + earns m t k (sum_by (expected t) row + expected t k)
  total-more row k =
      let at : 0 + sum_by (expected t) row + expected t k ≡ sum_by (expected t) row + expected t k = omega arith in
      omega (arith, earned-more (expected t) 0 row k, ap (earns m t k) at)

  module _ (sound : SoundMeaning m) (r : Sound t) (few : length t ≤ 16) where
    length-fits : (row : Order) → Leads t row → length row ≤ 16
    length-fits row x = omega (arith, length-row t row x.0 x.1)

    total-fits : (row : Order) → Leads t row → total m t row < 2 ^ 32
    total-fits row x = omega (arith, earned-small m sound t (expected t) 0 row, mul-le-mul_left top (length-fits row x))

    expected-fits : (row : Order) → Leads t row → sum_by (expected t) row < 2 ^ 32
    expected-fits row x = omega (arith, set-loads t expected_of row x, expected-small t r (has (set_of row)))

    maximum-fits : (row : Order) → Leads t row → sum_by (maximum t) row < 2 ^ 32
    maximum-fits row x = omega (arith, set-loads t maximum_of row x, maximum-small t r (has (set_of row)))

    -- a tally with the task that is placed has the figures of the row with it
    pub tells-more : (row : Order) (k : ℕ) → Leads t (row ++ k ∷ []) → (y z : Tally) → Tells m t row y → Adds m t k y z → Tells m t (row ++ k ∷ []) z
    tells-more row k x y z tells adds =
        record {
          placed = adds.placed ∙ ap (λ s. adding s k) tells.placed ∙ sym (joined-more 0 k row);
          expected = at;
          maximum = omega (arith, adds.maximum, tells.maximum, sum_by_push (maximum t) row k, maximum-fits (row ++ k ∷ []) x);
          total = omega (arith, adds.total, tells.total, total-more row k, ap (earns m t k) (at ∙ sum_by_push (expected t) row k), total-fits (row ++ k ∷ []) x);
        }
      where
        at : z.load.expected.0 ≡ sum_by (expected t) (row ++ k ∷ [])
        at = omega (arith, adds.expected, tells.expected, sum_by_push (expected t) row k, expected-fits (row ++ k ∷ []) x)
