-- Demands and margins. Assumes nothing.
use Rattle.std.proofs.Common.{◌≡◌, ◌↔◌, refl, sym, ap, ◌∙◌, Bool, true, false, IsTrue, List, ⊎_elim, ℕ, ◌≤◌, arith, cond, pos, ◌-ℤ◌, ◌≤ℤ◌, get_or, Option, Some, None, length, option_map}
use Rattle.std.proofs.lemmas.Int.{ints}
use Rattle.std.proofs.lemmas.Bool.{cases_lt}
use Rattle.std.proofs.lemmas.List.{get_or_past}
use Rattle.std.proofs.lemmas.List.FromFn.{get_or-range_with_len, length-range_with_len}
use Rattle.std.proofs.lemmas.List.Sums.{AllPass-from_list_all, list_all-from_AllPass}
use Rattle.std.specs.List.{AllPass, list_all, range_with_len}
use Rattle.std.specs.Prelude.{int_le, int_lt}
use Rattle.sheet.proofs.Loads.{load-same}
use Rattle.common.proofs.Sets.{has-none}
use Rattle.common.specs.Ranks.{FirstPresent}
use Rattle.common.specs.Sets.{has}
use Rattle.common.specs.declared.ticks.Margin.{Margin}
use Rattle.sheet.specs.Margins.{Fits, Tightest, deadline_of, demand, margin_for, margin_of, needed}
use Rattle.sheet.specs.Remaining.{FitsAfter, left_after, margin_after, pressing}
use Rattle.sheet.specs.Tables.{Table, blank, load_of, maximum_of, task_of}
use Rattle.sheet.specs.declared.table.Kind.{Kind}
use Rattle.sheet.specs.declared.table.Kind.TheVariants.{Plain, Soft, Hard}

-- what the code works out for a deadline
pub left_is : (t : Table) (done d s : ℕ) → ((u : ℕ) → has s u ≡ pressing t done d u) → load_of maximum_of t (has s) ≡ load_of maximum_of t (pressing t done d)
left_is t done d s e = load-same maximum_of t (has s) (pressing t done d) e

-- a number that no task has has no margin
no-margin-after : (t : Table) (s k : ℕ) → length t ≤ k → margin_after t s k ≡ None
no-margin-after t s k ge = rw (get_or_past t k blank ge) (at (has s k))
  where
    at : (b : Bool) → cond b None (option_map (left_after t s) (deadline_of blank.kind)) ≡ None
    at true = refl
    at false = refl

pub no-margin : (t : Table) (k : ℕ) → length t ≤ k → margin_of t k ≡ None
no-margin t k ge = rw (get_or_past t k blank ge)

-- ---- where nothing has run

demand-none : (t : Table) (d : ℕ) → load_of maximum_of t (pressing t 0 d) ≡ demand t d
unfolding demand needed pressing
demand-none t d = load-same maximum_of t (pressing t 0 d) (needed t d) (λ u. simp has-none)

kind-none : (t : Table) (kind : Kind) → option_map (left_after t 0) (deadline_of kind) ≡ margin_for t kind
kind-none t Plain = refl
kind-none t Soft = refl
kind-none t (Hard d) = let at : ℕ → Option Margin = λ n. Some (record { 0 = pos d -ℤ pos n }) in ap at (demand-none t d)

pub margin_none : (t : Table) (k : ℕ) → margin_after t 0 k ≡ margin_of t k
margin_none t k = ap (λ (b : Bool). cond b None (option_map (left_after t 0) (deadline_of (task_of t k).kind))) (has-none k) ∙ kind-none t (task_of t k).kind

pub fits-none : (t : Table) → FitsAfter t 0 ↔ Fits t
fits-none t = (λ f k m h. f k m (margin_none t k ∙ h), λ f k m h. f k m (sym (margin_none t k) ∙ h))

-- ---- the least margin, and all of them

-- the first best of the margins that are there
pub tightest-is : (t : Table) (ms : List (Option Margin)) → ((k : ℕ) → get_or ms k None ≡ margin_of t k) → (k : ℕ) → FirstPresent (λ (x y : Margin). int_lt x.0 y.0) ms k → Tightest t k
tightest-is t ms lists k p =
    record {
      margin = p.rank;
      has_it = sym (lists k) ∙ p.there;
      least = λ u m h. let b = p.best u m (lists u ∙ h) in grind (arith, ints);
      lowest = λ u m lt h. let f = p.first u m lt (lists u ∙ h) in grind (arith, ints);
    }

-- not below 0, or absent
abbrev pub is_met : Option Margin → Bool
is_met None = true
is_met (Some m) = int_le (pos 0) m.0

abbrev pub task_met : Table → (s k : ℕ) → Bool
task_met t s k = is_met (margin_after t s k)

-- none of the margins of the tasks is below 0
pub fits_is : (t : Table) (s : ℕ) (r : Bool) → r ≡ list_all (task_met t s) (range_with_len 0 (length t)) → IsTrue r ↔ FitsAfter t s
fits_is t s r all =
    let numbers = range_with_len 0 (length t) in
    (λ e. to (AllPass-from_list_all (task_met t s) numbers (sym all ∙ e)), λ f. all ∙ list_all-from_AllPass (task_met t s) numbers (λ k d lt. is _ (f (get_or numbers k d))))
  where
    is : (o : Option Margin) → ((m : Margin) → o ≡ Some m → pos 0 ≤ℤ m.0) → is_met o ≡ true
    is None each = refl
    is (Some m) each = let z = each m refl in grind (arith, ints)

    to : AllPass (task_met t s) (range_with_len 0 (length t)) → FitsAfter t s
    to all k m h =
        ⊎_elim
        (λ lt.
        let at : get_or (range_with_len 0 (length t)) k 0 ≡ k = omega (arith, get_or-range_with_len 0 (length t) k 0 lt) in
        let z = rw (ap (margin_after t s) at ∙ h) at (all k 0 (omega (arith, length-range_with_len 0 (length t)))) in
        grind (arith, ints))
        (λ ge. cc (no-margin-after t s k ge))
        (cases_lt k (length t))
