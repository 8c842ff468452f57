-- A history goes on by one call. Assumes nothing.
use Rattle.std.proofs.Common.{◌≡◌, refl, sym, subst, List, [], ◌∷◌, ℕ, ◌+◌, ◌<◌, ◌≤◌, drop, length, get_or}
use Rattle.std.proofs.lemmas.List.{drop_all, drop_more}
use Rattle.std.specs.Prelude.{fold}
use Rattle.book.specs.Worths.{Meaning}
use Rattle.history.specs.Histories.{Left, Passed, after}
use Rattle.history.specs.declared.Call.{Call}
use Rattle.sheet.specs.Tables.{Table}

-- from the table t and the memory `cells` and `order`, the calls make `last`, and what they leave is what `Whole` says
abbrev pub Rest : Meaning → (last : Table) → (Whole : (c o : List ℕ) → Type 0) → Table → List Call → (cells order : List ℕ) → Type 0
Rest m last Whole t calls cells order = (fold after t calls ≡ last) × ((c o : List ℕ) → Passed m t calls cells c order o → Whole c o)

module _ (m : Meaning) (last : Table) (Whole : (c o : List ℕ) → Type 0) where
  on : (call : Call) (calls : List Call) (t t' : Table) (cells c1 order o1 : List ℕ) →
      Rest m last Whole t (call ∷ calls) cells order → t' ≡ after t call → Left m t call cells c1 order o1 → Rest m last Whole t' calls c1 o1
  on call calls t t' cells c1 order o1 rest is left =
      subst (λ u. Rest m last Whole u calls c1 o1) (sym is) (rest.0, λ c o passed. rest.1 c o (c1, o1, left, passed))

  pub onward : (h : List Call) (i : ℕ) (d : Call) → i < length h → (t t' : Table) (cells c1 order o1 : List ℕ) →
      Rest m last Whole t (drop i h) cells order → t' ≡ after t (get_or h i d) → Left m t (get_or h i d) cells c1 order o1 → Rest m last Whole t' (drop (i + 1) h) c1 o1
  onward h i d lt t t' cells c1 order o1 rest is left =
      on (get_or h i d) (drop (i + 1) h) t t' cells c1 order o1 (subst (λ calls. Rest m last Whole t calls cells order) (drop_more h i d lt) rest) is left

  -- where no call is left
  pub ended : (h : List Call) (i : ℕ) → length h ≤ i → (t : Table) (cells order : List ℕ) → Rest m last Whole t (drop i h) cells order → (t ≡ last) × Whole cells order
  ended h i ge t cells order rest =
      let none : Rest m last Whole t [] cells order = subst (λ calls. Rest m last Whole t calls cells order) (drop_all i h ge) rest in
      (none.0, none.1 cells order (refl, refl))
