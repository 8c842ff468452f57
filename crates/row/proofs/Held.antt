-- What an open row knows of its tasks, and the row with one task more. Assumes nothing.
use Rattle.std.proofs.Common.{◌≡◌, sym, ap, subst, ◌∙◌, cond, ltb, true, false, [], ◌∷◌, ◌++◌, ℕ, ◌+◌, ◌<◌, ◌≤◌, arith, length, set, take}
use Rattle.std.proofs.lemmas.List.{take_more_set}
use Rattle.std.specs.Int.RustNames.{count_ones}
use Rattle.common.proofs.Sets.{ones-adding}
use Rattle.common.specs.Sets.{adding, has}
use Rattle.plan.proofs.Following.{with-task}
use Rattle.row.proofs.Firsts.{NoneBelow, ends-below, first-end}
use Rattle.row.proofs.Judging.{Ready, judged-fitting, judged-late, judged-not-ready, judged-placed, judged-unknown}
use Rattle.row.proofs.Laying.{joined-more, leads-of, length-row, next-may, set-counts, short}
use Rattle.row.specs.Laid.{laid}
use Rattle.row.specs.Rows.{First, Judged, Leads, set_of}
use Rattle.row.specs.declared.open.OpenRow.{OpenRow}
use Rattle.sheet.proofs.Rules.{sound-of}
use Rattle.sheet.proofs.Tables.{few-listed}
use Rattle.sheet.specs.Links.{linked}
use Rattle.sheet.specs.Remaining.{FitsAfter}
use Rattle.sheet.specs.Sheets.{table}
use Rattle.sheet.specs.Tables.{task_of}
use Rattle.sheet.specs.declared.table.Task.{Task}

module _ (x : OpenRow) where
  pub leads-on : Leads (table x.sheet) (laid x)
  leads-on = leads-of (table x.sheet) (sound-of x.sheet) (laid x) x.leads

  pub counts : count_ones x.placed.0 ≡ length (laid x)
  counts = ap count_ones x.holds ∙ set-counts (table x.sheet) (laid x) leads-on

  pub few : length (laid x) ≤ length (table x.sheet)
  few = omega (arith, length-row (table x.sheet) (laid x) leads-on.0 leads-on.1)

  module _ (k : ℕ) (more : Leads (table x.sheet) (laid x ++ k ∷ [])) where
    pub place-left : count_ones x.placed.0 < 16
    place-left = omega (arith, counts, short (table x.sheet) (laid x) k more, few-listed x.sheet.table)

    module _ (w : ℕ) (with : w ≡ cond (ltb k 16) (adding x.placed.0 k) x.placed.0) where
      with-more : w ≡ adding x.placed.0 k
      with-more = with-task x.sheet x.placed.0 k w (next-may (table x.sheet) (laid x) k more).task with

      with-counts : count_ones w ≡ count_ones x.placed.0 + 1
      with-counts = ap count_ones with-more ∙ ones-adding x.placed.0 k (rw x.holds ((next-may (table x.sheet) (laid x) k more).out))

      pub laid-more : (n : ℕ) → n ≡ count_ones x.placed.0 → take (count_ones w) (set x.order n k) ≡ laid x ++ k ∷ []
      laid-more n e =
          ap (λ c. take c (set x.order n k)) (with-counts ∙ ap (λ c. c + 1) (sym e)) ∙ take_more_set x.order n k (omega (arith, e, place-left, x.whole)) ∙ ap (λ c. take c x.order ++ k ∷ []) e

      pub holds-more : w ≡ set_of (laid x ++ k ∷ [])
      holds-more = with-more ∙ ap (λ s. adding s k) x.holds ∙ sym (joined-more 0 k (laid x))

pub few-ones : (x : OpenRow) → count_ones x.placed.0 ≤ 16
few-ones x = omega (arith, counts x, few x, few-listed x.sheet.table)

-- how many tasks there are
pub ruleset counted = (counts, few, few-ones)

-- ---- what placing task k is answered, by what the code asks

module _ (x : OpenRow) (k : ℕ) where
  pub held-unknown : length (table x.sheet) ≤ k → Judged (table x.sheet) (laid x) k 1
  held-unknown = judged-unknown (table x.sheet) (sound-of x.sheet) (laid x) k

  module _ (lt : k < length (table x.sheet)) where
    pub held-placed : has x.placed.0 k ≡ true → Judged (table x.sheet) (laid x) k 15
    held-placed e = judged-placed (table x.sheet) (sound-of x.sheet) (laid x) k lt (rw (← x.holds) e)

    module _ (y : Task) (is : y ≡ task_of (table x.sheet) k) (out : has x.placed.0 k ≡ false) where
      -- all its direct predecessors are placed
      abbrev pub Before : Type 0
      Before = (u : ℕ) → has y.before.0 u ≡ true → has x.placed.0 u ≡ true

      free : has (set_of (laid x)) k ≡ false
      free = rw (← x.holds) out

      pub held-not-ready : (Before → ⊥) → Judged (table x.sheet) (laid x) k 16
      unfolding linked
      held-not-ready early =
          judged-not-ready (table x.sheet) (sound-of x.sheet) (laid x) k lt free (λ ready. early (λ u h. rw x.holds (ready u (rw (← is) h))))

      module _ (before : Before) (w : ℕ) (with : w ≡ cond (ltb k 16) (adding x.placed.0 k) x.placed.0) where
        ready : Ready (table x.sheet) (sound-of x.sheet) (laid x) k
        unfolding linked
        ready a l = rw (← x.holds) (before a (rw is l))

        with-it : w ≡ adding (set_of (laid x)) k
        with-it = with-task x.sheet x.placed.0 k w lt with ∙ ap (λ s. adding s k) x.holds

        pub held-no-order : (FitsAfter (table x.sheet) w → ⊥) → Judged (table x.sheet) (laid x) k 17
        held-no-order late = judged-late (table x.sheet) (sound-of x.sheet) (laid x) k lt free ready (rw with-it at late)

        pub held-accepted : FitsAfter (table x.sheet) w → Judged (table x.sheet) (laid x) k 0
        held-accepted fits = judged-fitting (table x.sheet) (sound-of x.sheet) (laid x) k lt free ready (leads-on x) (rw with-it at fits)

-- ---- the places that are left

module _ (x : OpenRow) (n : ℕ) (tasks : n ≡ length (table x.sheet)) where
  pub not-whole : count_ones x.placed.0 < n → length (laid x) < length (table x.sheet)
  not-whole lt = omega (arith, tasks, counts x)

  -- the search for the next task ends at one
  pub ends : count_ones x.placed.0 < n → (k : ℕ) → NoneBelow (table x.sheet) (laid x) k → k < length (table x.sheet)
  ends lt k none = ends-below (table x.sheet) (laid x) (sound-of x.sheet) k (leads-on x) (not-whole lt) none

  -- a row without a place left is the first order
  pub whole : n ≤ count_ones x.placed.0 → First (table x.sheet) (laid x) (take (length (table x.sheet)) x.order)
  whole le = subst (λ c. First (table x.sheet) (laid x) (take c x.order)) all (first-end (table x.sheet) (laid x) (leads-on x) (sym (counts x) ∙ all))
    where
      all : count_ones x.placed.0 ≡ length (table x.sheet)
      all = omega (arith, tasks, le, counts x, length-row (table x.sheet) (laid x) (leads-on x).0 (leads-on x).1)
