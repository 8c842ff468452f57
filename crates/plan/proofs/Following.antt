-- What the questions of src/next.rt find. Assumes nothing.
use Rattle.std.proofs.Common.{◌≡◌, ap, ap₂, ◌∙◌, cond, min, ltb, ◌-◌, Bool, true, false, ◌↔◌, IsTrue, ℕ, ◌+◌, ◌^◌, ◌<◌, ◌≤◌, arith, length}
use Rattle.std.proofs.lemmas.Bool.{both_ways}
use Rattle.std.proofs.lemmas.Bool.Decides.{nat_tests}
use Rattle.book.specs.Worths.{Meaning, Sound}
use Rattle.common.specs.Sets.{adding, has}
use Rattle.plan.proofs.Runs.{cell-small}
use Rattle.plan.proofs.Greatest.{next-goes}
use Rattle.plan.specs.Cells.{Cell}
use Rattle.plan.specs.Next.{May, Next}
use Rattle.plan.specs.Orders.{expected, maximum}
use Rattle.sheet.proofs.Loads.{expected-small, expected-task, maximum-small, maximum-task}
use Rattle.sheet.proofs.Rules.{sound-of}
use Rattle.sheet.proofs.Tables.{few-listed}
use Rattle.sheet.specs.Links.{linked}
use Rattle.sheet.specs.Sheets.{table}
use Rattle.sheet.specs.Tables.{Table, expected_of, is_soft, load_of, maximum_of, task_of}
use Rattle.sheet.specs.declared.sheet.Sheet.{Sheet}
use Rattle.sheet.specs.declared.table.Kind.{Kind}
use Rattle.sheet.specs.declared.table.Kind.TheVariants.{Hard}
use Rattle.sheet.specs.declared.table.Task.{Task}

-- a task more than a set still fits into 32 bits
pub maximum-fits : (s : Sheet) (p : ℕ → Bool) (k : ℕ) → k < length (table s) → load_of maximum_of (table s) p + maximum (table s) k < 2 ^ 32
maximum-fits s p k lt =
    omega (arith, maximum-small (table s) (sound-of s) p, maximum-task (table s) (sound-of s) k lt, few-listed s.table)

module _ (t : Table) (s k : ℕ) (x : Task) (is : x ≡ task_of t k) where
  pub may-not-ready : (ready : Bool) → ready ≡ false → IsTrue ready ↔ ((u : ℕ) → has x.before.0 u ≡ true → has s u ≡ true) → IsTrue ready ↔ May t s k
  unfolding linked
  may-not-ready ready e tells =
      (λ h. absurd (both_ways _ e h), λ may. tells.1 (λ u l. may.ready u (rw is at l)))

  pub may-in-time : (load : ℕ) (in_time : Bool) → load ≡ load_of maximum_of t (has s) → k < length t → has s k ≡ false → ((u : ℕ) → has x.before.0 u ≡ true → has s u ≡ true) →
      IsTrue in_time ↔ ((d : ℕ) → x.kind ≡ Hard d → load + maximum_of x ≤ d) → IsTrue in_time ↔ May t s k
  unfolding linked
  may-in-time load in_time sum lt out ready tells = (
    λ h. record {
      task = lt;
      out = out;
      ready = λ a l. ready a (rw (← is) at l);
      timely = λ d e. let z = tells.0 h d (rw (← is) at e) in omega (arith, ap maximum_of is);
    },
    λ may. tells.1 (λ d e. let z = may.timely d (rw is at e) in omega (arith, ap maximum_of is)),
  )

-- a set with one task more, as the code makes it
pub with-task : (s : Sheet) (set k w : ℕ) → k < length (table s) → w ≡ cond (ltb k 16) (adding set k) set → w ≡ adding set k
with-task s set k w lt e = grind (arith, nat_tests, few-listed s.table)

module _ (m : Meaning) (s : Sheet) (set k : ℕ) where
  -- a cell and a worth still fit into 32 bits
  pub value-fits : Sound m → (set' v w at : ℕ) (kind : Kind) → Cell m (table s) set' v → w ≡ cond (is_soft kind) (m k at) 0 → v + w < 2 ^ 32
  value-fits sound set' v w at kind cell e =
      let b = sound.bounded k at in
      let few = few-listed s.table in
      let small = cell-small m sound (table s) set' v cell in
      grind (arith, nat_tests)

  -- what the code works out of the task that comes next
  pub value-is : (x : Task) (v w from at : ℕ) → x ≡ task_of (table s) k → May (table s) set k → Cell m (table s) (adding set k) v → 0 < v → from ≡ load_of expected_of (table s) (has set) →
      at ≡ min (from + expected_of x) (2 ^ 32 - 1) → w ≡ cond (is_soft x.kind) (m k at) 0 → Next m (table s) set k (v + w)
  value-is x v w from at is may cell pos sum end e =
      next-goes m (table s) set k v w may cell pos (e ∙ ap₂ (λ (y : Task) n. cond (is_soft y.kind) (m k n) 0) is exact)
    where
      exact : at ≡ load_of expected_of (table s) (has set) + expected (table s) k
      exact = omega (arith, end, sum, ap expected_of is, expected-small (table s) (sound-of s) (has set), expected-task (table s) (sound-of s) k may.task, few-listed s.table)
