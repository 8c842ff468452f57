-- A file is made of the pieces that are cut from it, and of no others. Assumes nothing.
use Rattle.std.proofs.Common.{◌≡◌, ◌≢◌, refl, sym, ap, subst, ◌∙◌, Bool, true, false, if◌then◌else◌, ◌==◌, List, [], ◌∷◌, ◌++◌, ℕ, zero, suc, ◌-◌, ◌<◌, arith, drop, length, length-append, slice_index_or}
use Rattle.std.proofs.lemmas.Grind.{common_steps}
use Rattle.std.proofs.lemmas.List.Elements.{All-cons, All-nil, All-tail}
use Rattle.std.specs.List.{concat, onto_first}
use Rattle.file.specs.Again.{OneCutting}
use Rattle.file.specs.Lines.{ArePieces, Uncut, pieces}

-- ---- one byte more in front

none : ArePieces [] []
none = record { whole = refl; some = All-nil (λ p. 0 < length p); ended = λ k low. absurd (omega (arith, low)); within = All-nil Uncut }

cut : (b : ℕ) (ps : List (List ℕ)) (bs : List ℕ) → b ≡ 10 → ArePieces ps bs → ArePieces ((b ∷ []) ∷ ps) (b ∷ bs)
cut b ps bs is a =
    record {
      whole = ap (λ xs. b ∷ xs) a.whole;
      some = All-cons (λ p. 0 < length p) (b ∷ []) ps (omega arith) a.some;
      ended = ends;
      within = All-cons Uncut (b ∷ []) ps (λ i low. absurd (omega (arith, low))) a.within;
    }
  where
    ends : (k : ℕ) → suc k < length ((b ∷ []) ∷ ps) → slice_index_or (slice_index_or ((b ∷ []) ∷ ps) k []) (length (slice_index_or ((b ∷ []) ∷ ps) k []) - 1) 0 ≡ 10
    ends zero low = is
    ends (suc k) low = a.ended k (omega (arith, low))

uncut : (b : ℕ) (ps : List (List ℕ)) (bs : List ℕ) → b ≢ 10 → ArePieces ps bs → ArePieces (onto_first b ps) (b ∷ bs)
uncut b [] bs other a =
    record {
      whole = ap (λ xs. b ∷ xs) a.whole;
      some = All-cons (λ p. 0 < length p) (b ∷ []) [] (omega arith) a.some;
      ended = λ k low. absurd (omega (arith, low));
      within = All-cons Uncut (b ∷ []) [] (λ i low. absurd (omega (arith, low))) a.within;
    }
uncut b (p ∷ ps) bs other a =
    record {
      whole = ap (λ xs. b ∷ xs) a.whole;
      some = All-cons (λ p. 0 < length p) (b ∷ p) ps (omega arith) (All-tail (λ p. 0 < length p) p ps a.some);
      ended = ends;
      within = All-cons Uncut (b ∷ p) ps first (All-tail Uncut p ps a.within);
    }
  where
    ends : (k : ℕ) → suc k < length ((b ∷ p) ∷ ps) → slice_index_or (slice_index_or ((b ∷ p) ∷ ps) k []) (length (slice_index_or ((b ∷ p) ∷ ps) k []) - 1) 0 ≡ 10
    ends zero low =
        let at : length (b ∷ p) - 1 ≡ suc (length p - 1) = omega (arith, a.some 0 [] (omega arith)) in
        ap (λ i. slice_index_or (b ∷ p) i 0) at ∙ a.ended 0 (omega (arith, low))
    ends (suc k) low = a.ended (suc k) (omega (arith, low))

    first : Uncut (b ∷ p)
    first zero low = other
    first (suc i) low = a.within 0 [] (omega arith) i (omega (arith, low))

pub pieces_are : (file : List ℕ) → ArePieces (pieces file) file
pieces_are [] = none
pieces_are (b ∷ bs) = choose (b == 10) refl (pieces_are bs)
  where
    choose : (t : Bool) → (b == 10) ≡ t → ArePieces (pieces bs) bs → ArePieces (if t then (b ∷ []) ∷ pieces bs else onto_first b (pieces bs)) (b ∷ bs)
    choose true is more = cut b (pieces bs) bs (grind (arith, common_steps)) more
    choose false isnt more = uncut b (pieces bs) bs (grind (arith, common_steps)) more

-- ---- one byte less in front

behind_cut : (b : ℕ) (ps : List (List ℕ)) (bs : List ℕ) → ArePieces ((b ∷ []) ∷ ps) (b ∷ bs) → ArePieces ps bs
behind_cut b ps bs a =
    record {
      whole = ap (drop 1) a.whole;
      some = All-tail (λ p. 0 < length p) (b ∷ []) ps a.some;
      ended = λ k low. a.ended (suc k) (omega (arith, low));
      within = All-tail Uncut (b ∷ []) ps a.within;
    }

behind_uncut : (b c : ℕ) (p : List ℕ) (ps : List (List ℕ)) (bs : List ℕ) → ArePieces ((b ∷ c ∷ p) ∷ ps) (b ∷ bs) → ArePieces ((c ∷ p) ∷ ps) bs
behind_uncut b c p ps bs a =
    record {
      whole = ap (drop 1) a.whole;
      some = All-cons (λ p. 0 < length p) (c ∷ p) ps (omega arith) (All-tail (λ p. 0 < length p) (b ∷ c ∷ p) ps a.some);
      ended = ends;
      within = All-cons Uncut (c ∷ p) ps (λ i low. a.within 0 [] (omega arith) (suc i) (omega (arith, low))) (All-tail Uncut (b ∷ c ∷ p) ps a.within);
    }
  where
    ends : (k : ℕ) → suc k < length ((c ∷ p) ∷ ps) → slice_index_or (slice_index_or ((c ∷ p) ∷ ps) k []) (length (slice_index_or ((c ∷ p) ∷ ps) k []) - 1) 0 ≡ 10
    ends zero low =
        let at : length (b ∷ c ∷ p) - 1 ≡ suc (length (c ∷ p) - 1) = omega arith in
        ap (λ i. slice_index_or (b ∷ c ∷ p) i 0) (sym at) ∙ a.ended 0 (omega (arith, low))
    ends (suc k) low = a.ended (suc k) (omega (arith, low))

first_byte : (c b : ℕ) (xs ys : List ℕ) → c ∷ xs ≡ b ∷ ys → c ≡ b
first_byte c b xs ys same = cc

-- a piece of one byte that is not 0A is the last
last : (b : ℕ) (ps : List (List ℕ)) (bs : List ℕ) → b ≢ 10 → ArePieces ((b ∷ []) ∷ ps) (b ∷ bs) → (b ∷ []) ∷ ps ≡ onto_first b (pieces bs)
last b [] bs other a = ap (λ xs. onto_first b (pieces xs)) (ap (drop 1) a.whole)
last b (p ∷ ps) bs other a = absurd (other (a.ended 0 (omega arith)))

only : (file : List ℕ) (ps : List (List ℕ)) → ArePieces ps file → ps ≡ pieces file
only [] [] a = refl
only [] (p ∷ ps) a = absurd (omega (arith, a.some 0 [] (omega arith), length-append p (concat ps), ap length a.whole))
only (b ∷ bs) [] a = absurd (omega (arith, ap length a.whole))
only (b ∷ bs) ([] ∷ ps) a = absurd (omega (arith, a.some 0 [] (omega arith)))
only (b ∷ bs) ((c ∷ []) ∷ ps) a =
    let same = first_byte c b (concat ps) bs a.whole in
    let here = subst (λ c. ArePieces ((c ∷ []) ∷ ps) (b ∷ bs)) same a in
    ap (λ c. (c ∷ []) ∷ ps) same ∙ choose (b == 10) refl here (only bs ps (behind_cut b ps bs here))
  where
    choose : (t : Bool) → (b == 10) ≡ t → ArePieces ((b ∷ []) ∷ ps) (b ∷ bs) → ps ≡ pieces bs → (b ∷ []) ∷ ps ≡ (if t then (b ∷ []) ∷ pieces bs else onto_first b (pieces bs))
    choose true is here more = ap (λ ps. (b ∷ []) ∷ ps) more
    choose false isnt here more = last b ps bs (grind (arith, common_steps)) here
only (b ∷ bs) ((c ∷ d ∷ p) ∷ ps) a =
    let same = first_byte c b ((d ∷ p) ++ concat ps) bs a.whole in
    let here = subst (λ c. ArePieces ((c ∷ d ∷ p) ∷ ps) (b ∷ bs)) same a in
    ap (λ c. (c ∷ d ∷ p) ∷ ps) same ∙ choose (b == 10) refl (here.within 0 [] (omega arith) 0 (omega arith)) (only bs ((d ∷ p) ∷ ps) (behind_uncut b d p ps bs here))
  where
    choose : (t : Bool) → (b == 10) ≡ t → b ≢ 10 → (d ∷ p) ∷ ps ≡ pieces bs → (b ∷ d ∷ p) ∷ ps ≡ (if t then (b ∷ []) ∷ pieces bs else onto_first b (pieces bs))
    choose true is other more = absurd (other (grind (arith, common_steps)))
    choose false isnt other more = ap (onto_first b) more

pub one_cutting : OneCutting
one_cutting file ps = (only file ps, λ same. subst (λ ps. ArePieces ps file) (sym same) (pieces_are file))
