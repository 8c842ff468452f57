-- How long tasks take, alone and together. Assumes nothing.
use Rattle.std.proofs.Common.{◌≡◌, refl, Bool, true, false, ℕ, ◌+◌, ◌*◌, ◌<◌, ◌≤◌, arith, length, min}
use Rattle.common.proofs.Sets.{removing-less, sum-less, sum-none, sum-removing, sum-same, sum-small}
use Rattle.common.specs.Sets.{has, removing}
use Rattle.sheet.proofs.Rules.{Sound}
use Rattle.sheet.specs.Rules.{Lasts}
use Rattle.sheet.specs.Tables.{Table, blank, expected_of, load_of, maximum_of, task_of}
use Rattle.sheet.specs.declared.table.Task.{Task}

-- ---- one task

pub expected-within : (x : Task) → Lasts x → (x.min ≤ expected_of x) × (expected_of x ≤ x.max)
unfolding expected_of
expected-within x l = (omega arith, omega arith)

pub expected-pos : (t : Table) → Sound t → (k : ℕ) → k < length t → 0 < expected_of (task_of t k)
expected-pos t r k lt = let l = r.lasting k blank lt in omega (arith, expected-within (task_of t k) l)

module _ (t : Table) (r : Sound t) where
  pub maximum-task : (k : ℕ) → k < length t → maximum_of (task_of t k) ≤ 65535
  unfolding maximum_of
  maximum-task k lt = let l = r.lasting k blank lt in omega arith

  pub expected-task : (k : ℕ) → k < length t → expected_of (task_of t k) ≤ 65535
  expected-task k lt = let l = r.lasting k blank lt in omega (arith, expected-within (task_of t k) l)

  -- so no sum over a sheet wraps
  pub maximum-small : (p : ℕ → Bool) → load_of maximum_of t p ≤ 65535 * length t
  maximum-small p = sum-small p (λ k. maximum_of (task_of t k)) 65535 (length t) maximum-task

  pub expected-small : (p : ℕ → Bool) → load_of expected_of t p ≤ 65535 * length t
  expected-small p = sum-small p (λ k. expected_of (task_of t k)) 65535 (length t) expected-task

-- ---- tasks together

-- a task that takes time makes a load
pub load-pos : (f : Task → ℕ) (t : Table) (p : ℕ → Bool) (k : ℕ) → k < length t → p k ≡ true → 0 < f (task_of t k) → 0 < load_of f t p
load-pos f t p k lt in' pos = omega (arith, sum-less (λ _. false) p (λ j. f (task_of t j)) (λ j e. cc) (length t) k lt refl in' pos)

pub load-same : (f : Task → ℕ) (t : Table) (p q : ℕ → Bool) → ((k : ℕ) → p k ≡ q k) → load_of f t p ≡ load_of f t q
load-same f t p q same = sum-same p q (λ j. f (task_of t j)) (length t) (λ k _. same k)

-- ---- tasks together, by member: `done` is what those take that were taken out of the set, and `left` has the others

-- the bound keeps the sums below 2^32
pub record Left (f : Task → ℕ) (t : Table) (set done left : ℕ) : Type 0 where
  pub sum : done + load_of f t (has left) ≡ load_of f t (has set)
  pub small : done + 65535 * left ≤ 65535 * set

pub left-none : (f : Task → ℕ) (t : Table) (set done left : ℕ) → Left f t set done left → ((k : ℕ) → k < length t → has left k ≡ false) → done ≡ load_of f t (has set)
left-none f t set done left l none = omega (arith, l.sum, sum-none (has left) (λ k. f (task_of t k)) (length t) none)

pub left-less : (f : Task → ℕ) (t : Table) (set done left : ℕ) → Left f t set done left → set < 65536 → (k : ℕ) → k < length t → has left k ≡ true →
    (each : ℕ) → each ≡ f (task_of t k) → each ≤ 65535 → (more : ℕ) → more ≡ min (done + each) 4294967295 → (rest : ℕ) → rest ≡ removing left k → Left f t set more rest
left-less f t set done left l below k lt member each is most more e rest gone =
    let less = removing-less left k member in
    let plain : more ≡ done + each = omega (arith, less, l.small) in
    record {
      sum = rw gone (omega (arith, l.sum, sum-removing (λ j. f (task_of t j)) left k (length t) member lt, plain, is));
      small = omega (arith, less, l.small, plain, gone);
    }
