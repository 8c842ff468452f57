-- The first of the lawful orders that begin with a row: at each place the lowest task with which the row leads on. Assumes nothing.
use Rattle.std.proofs.Common.{◌≡◌, ◌≢◌, refl, sym, ap, subst, subst₂, ◌∙◌, inl, inr, ⊎_elim, [], ◌∷◌, ◌++◌, ℕ, ◌+◌, ◌<◌, ◌≤◌, arith, length, slice_index_or}
use Rattle.std.proofs.lemmas.Bool.{cases_lt, cases_order}
use Rattle.std.proofs.lemmas.List.{append-nil, append_assoc, append_cancel_left}
use Rattle.plan.specs.Orders.{Lawful, Order}
use Rattle.plan.specs.Totals.{Before}
use Rattle.row.proofs.Laying.{length-row, more-fits}
use Rattle.row.specs.Rows.{First, Leads, Lowest}
use Rattle.sheet.proofs.Rules.{Sound}
use Rattle.sheet.specs.Tables.{Table}

before-behind : (row o p : Order) → Before o p → Before (row ++ o) (row ++ p)
before-behind [] o p h = h
before-behind (x ∷ row) o p h = inr (refl, before-behind row o p h)

-- two orders that differ first where the one has k and the other u
before-at : (front : Order) (k u : ℕ) (o p : Order) → Before (front ++ k ∷ o) (front ++ u ∷ p) → k ≤ u
before-at [] k u o p (inl lt) = omega (arith, lt)
before-at [] k u o p (inr same) = omega (arith, same.0)
before-at (x ∷ front) k u o p (inl lt) = absurd (omega (arith, lt))
before-at (x ∷ front) k u o p (inr same) = before-at front k u o p same.1

-- no row with a task below n behind it leads on
abbrev pub NoneBelow : Table → (row : Order) (n : ℕ) → Type 0
NoneBelow t row n = (k : ℕ) → k < n → Leads t (row ++ k ∷ []) → ⊥

pub none-more : (t : Table) (row : Order) (n : ℕ) → NoneBelow t row n → (Leads t (row ++ n ∷ []) → ⊥) → NoneBelow t row (n + 1)
none-more t row n none last k lt x = ⊎_elim (λ low. none k low x) (λ ge. let e : k ≡ n = omega arith in last (rw e at x)) (cases_lt k n)

module _ (t : Table) (row : Order) where
  -- a row that is not whole leads on with some task, so a search for one ends at a task
  some-next : (o : Order) → Lawful t (row ++ o) → length row < length t → (k : ℕ) × Leads t (row ++ k ∷ [])
  some-next [] l lt = absurd (let n = length-row t row [] l in omega arith)
  some-next (k ∷ o) l lt = (k, (o, rw (append_assoc row (k ∷ []) o) l))

  pub ends-below : Sound t → (n : ℕ) → Leads t row → length row < length t → NoneBelow t row n → n < length t
  ends-below r n x lt none =
      let some = some-next x.0 x.1 lt in
      let task = (more-fits t r row some.0 some.1).0.task in
      ⊎_elim (λ low. absurd (none some.0 low some.1)) (λ ge. omega arith) (cases_lt some.0 n)

  -- with the lowest such task behind it, the row has the same first order
  pub first-next : (k : ℕ) (o : Order) → length row < length t → NoneBelow t row k → First t (row ++ k ∷ []) o → First t row o
  first-next k o lt none f = record { lawful = f.lawful; begins = (k ∷ f.begins.0, is); first = first }
    where
      is : o ≡ row ++ k ∷ f.begins.0
      is = f.begins.1 ∙ append_assoc row (k ∷ []) f.begins.0

      first : (rest : Order) → Lawful t (row ++ rest) → row ++ rest ≢ o → Before o (row ++ rest)
      first [] l ne = absurd (let n = length-row t row [] l in omega arith)
      first (x ∷ rest) l ne =
          let apart = append_assoc row (x ∷ []) rest in
          ⊎_elim
          (λ same.
          let e : (row ++ k ∷ []) ++ rest ≡ row ++ x ∷ rest = append_assoc row (k ∷ []) rest ∙ ap (λ y. row ++ y ∷ rest) (sym same) in
          subst (Before o) e (f.first rest (subst (Lawful t) (sym e) l) (λ q. ne (sym e ∙ q))))
          (⊎_elim
          (λ low. absurd (none x low (rest, subst (Lawful t) (sym apart) l)))
          (λ high. subst (λ p. Before p (row ++ x ∷ rest)) (sym is) (before-behind row (k ∷ f.begins.0) (x ∷ rest) (inl high))))
          (cases_order x k)

  -- a row that has all tasks is its first order
  pub first-end : Leads t row → length row ≡ length t → First t row row
  first-end x e = record { lawful = whole x.0 x.1; begins = ([], sym (append-nil row)); first = first }
    where
      whole : (o : Order) → Lawful t (row ++ o) → Lawful t row
      whole [] l = subst (Lawful t) (append-nil row) l
      whole (k ∷ o) l = absurd (let n = length-row t row (k ∷ o) l in omega arith)

      first : (rest : Order) → Lawful t (row ++ rest) → row ++ rest ≢ row → Before row (row ++ rest)
      first [] l ne = absurd (ne (append-nil row))
      first (k ∷ rest) l ne = absurd (let n = length-row t row (k ∷ rest) l in omega arith)

  -- and it has no other
  pub first-whole : (o : Order) → Lawful t row → First t row o → o ≡ row
  first-whole o l f = is f.begins.0 f.begins.1
    where
      is : (rest : Order) → o ≡ row ++ rest → o ≡ row
      is [] e = e ∙ append-nil row
      is (k ∷ rest) e =
          absurd (let n = length-row t row [] (subst (Lawful t) (sym (append-nil row)) l) in let n' = length-row t row (k ∷ rest) (subst (Lawful t) e f.lawful) in omega arith)

  -- each task behind the row is the lowest with which what stands before it leads on
  pub first-lowest : (o : Order) → First t row o → Lowest t row o
  first-lowest o f before k behind u e x = ⊎_elim (λ low. before-at (row ++ before) k u behind x.0 (later low)) (λ high. high) (cases_lt u k)
    where
      other : row ++ before ++ u ∷ [] ++ x.0 ≡ row ++ (before ++ u ∷ x.0)
      other = append_assoc (row ++ before) (u ∷ []) x.0 ∙ append_assoc row before (u ∷ x.0)

      apart : u < k → row ++ (before ++ u ∷ x.0) ≢ o
      apart low same =
          let ends = append_cancel_left (row ++ before) (u ∷ x.0) (k ∷ behind) (append_assoc row before (u ∷ x.0) ∙ same ∙ e) in
          let heads : u ≡ k = ap (λ p. slice_index_or p 0 0) ends in
          absurd (omega (arith, heads))

      later : u < k → Before (row ++ before ++ k ∷ behind) (row ++ before ++ u ∷ x.0)
      later low = subst₂ Before e (sym (append_assoc row before (u ∷ x.0))) (f.first (before ++ u ∷ x.0) (subst (Lawful t) other x.1) (apart low))
