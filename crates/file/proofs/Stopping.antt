-- A load goes line by line. Assumes nothing.
use Rattle.std.proofs.Common.{◌≡◌, refl, sym, ap, subst, ◌∙◌, ◌⊎◌, inl, inr, Bool, true, false, ◌==◌, if◌then◌else◌, List, [], ◌∷◌, ℕ, zero, suc, ◌+◌, ◌-◌, ◌<◌, ◌≤◌, Result, Ok, Err, arith, length, map, nat_lt, slice_index_or, take}
use Rattle.std.proofs.lemmas.Bool.{cases_lt}
use Rattle.std.proofs.lemmas.Bool.Decides.{nat_tests}
use Rattle.std.proofs.lemmas.List.{length-take, take_all}
use Rattle.std.specs.List.{onto_first}
use Rattle.std.specs.Result.{IsOk}
use Rattle.common.specs.declared.refusal.Refusal.{Refusal}
use Rattle.file.proofs.Loads.{run-cons, run-none}
use Rattle.file.specs.Faults.{Figures, figures, told}
use Rattle.file.specs.Lines.{pieces}
use Rattle.file.specs.Stopping.{AtFault, FrontTells, LineByLine, front, line_makes}
use Rattle.file.specs.Loads.{Made, after, and_then, call_of, layer, loaded, longest, nothing_made, obeyed, run, verdict}
use Rattle.file.specs.Readings.{Reading, reading}
use Rattle.file.specs.declared.fault.Fault.TheVariants.{TooLong}

-- ---- two steps

then-ok : (a : Result Made Figures) (more : Made → Result Made Figures) (m : Made) → and_then a more ≡ Ok m → (x : Made) × (a ≡ Ok x) × (more x ≡ Ok m)
then-ok (Ok x) more m is = (x, refl, is)
then-ok (Err fault) more m is = absurd (grind (arith, is))

-- ---- a file without a fault has none in any front of it

ok-front : (ps : List (List ℕ)) (m : Made) (n : ℕ) (m' : Made) → run m n (map reading ps) ≡ Ok m' → (k : ℕ) → IsOk (run m n (map reading (take k ps)))
ok-front ps m n m' is zero = subst IsOk (sym (run-none m n)) refl
ok-front [] m n m' is (suc k) = subst IsOk (sym (run-none m n)) refl
ok-front (p ∷ ps) m n m' is (suc k) =
    let (x, first, more) = then-ok (obeyed m n (reading p)) (λ x. run x (suc n) (map reading ps)) m' (sym (run-cons m n (reading p) (map reading ps)) ∙ is) in
    subst IsOk (sym (run-cons m n (reading p) (map reading (take k ps)) ∙ ap (λ a. and_then a (λ x. run x (suc n) (map reading (take k ps)))) first)) (ok-front ps x (suc n) m' more k)

-- ---- a line more

then-then : (a : Result Made Figures) (f g : Made → Result Made Figures) → and_then (and_then a f) g ≡ and_then a (λ x. and_then (f x) g)
then-then (Ok x) f g = refl
then-then (Err fault) f g = refl

then-same : (a : Result Made Figures) (f g : Made → Result Made Figures) → ((x : Made) → f x ≡ g x) → and_then a f ≡ and_then a g
then-same (Ok x) f g same = same x
then-same (Err fault) f g same = refl

-- what line n + k makes of what the k lines before it make, the first of them line n
behind : (ps : List (List ℕ)) (n k : ℕ) → Made → Result Made Figures
behind ps n k x = obeyed x (n + k) (reading (slice_index_or ps k []))

run-more : (ps : List (List ℕ)) (m : Made) (n k : ℕ) → k < length ps → run m n (map reading (take (suc k) ps)) ≡ and_then (run m n (map reading (take k ps))) (behind ps n k)
unfolding behind
run-more [] m n k low = absurd (omega (arith, low))
run-more (p ∷ ps) m n zero low =
    let at : n + 0 ≡ n = omega arith in
    run-cons m n (reading p) []
    ∙ then-done (obeyed m n (reading p))
    ∙ ap (λ l. obeyed m l (reading p)) (sym at)
    ∙ ap (λ a. and_then a (behind (p ∷ ps) n 0)) (sym (run-none m n))
  where
    then-done : (a : Result Made Figures) → and_then a (λ x. run x (suc n) []) ≡ a
    then-done (Ok x) = run-none x (suc n)
    then-done (Err fault) = refl
run-more (p ∷ ps) m n (suc k) low =
    let at : suc n + k ≡ n + suc k = omega arith in
    let rest = λ (x : Made). run x (suc n) (map reading (take k ps)) in
    run-cons m n (reading p) (map reading (take (suc k) ps))
    ∙ then-same (obeyed m n (reading p)) _ _ (λ x. run-more ps x (suc n) k (omega (arith, low))
    ∙ ap (λ l. and_then (rest x) (λ y. obeyed y l (reading (slice_index_or ps k [])))) at)
    ∙ sym (then-then (obeyed m n (reading p)) rest (behind (p ∷ ps) n (suc k)))
    ∙ ap (λ a. and_then a (behind (p ∷ ps) n (suc k))) (sym (run-cons m n (reading p) (map reading (take k ps))))

-- ---- a fault is that of its line

line-called : (b : Bool) (m : Made) (layer cause n : ℕ) (fault : Figures) → (if b then Ok m else Err (told layer cause n)) ≡ Err fault → fault.line ≡ n
line-called true m layer cause n fault is = absurd (grind (arith, is))
line-called false m layer cause n fault is = grind (arith, is)

line-obeyed : (m : Made) (n : ℕ) (r : Result Reading Refusal) (fault : Figures) → obeyed m n r ≡ Err fault → fault.line ≡ n
line-obeyed m n (Ok r) fault is = let call = call_of r.frame in line-called (verdict m call == 0) (after m call) (layer call) (verdict m call) n fault is
line-obeyed m n (Err cause) fault is = grind (arith, is)

-- the pieces before piece i make something, and the fault is that of piece i
record Stops (ps : List (List ℕ)) (m : Made) (n : ℕ) (fault : Figures) : Type 0 where
  pub place : ℕ
  pub within : place < length ps
  pub line : fault.line ≡ n + place
  pub before : Made
  pub makes : run m n (map reading (take place ps)) ≡ Ok before
  pub stops : obeyed before (n + place) (reading (slice_index_or ps place [])) ≡ Err fault

-- at the first piece, or behind it
then-err : (a : Result Made Figures) (p : List ℕ) (ps : List (List ℕ)) (m : Made) (n : ℕ) (fault : Figures) → obeyed m n (reading p) ≡ a → and_then a (λ x. run x (suc n) (map reading ps)) ≡ Err fault →
    ((x : Made) → run x (suc n) (map reading ps) ≡ Err fault → Stops ps x (suc n) fault) → Stops (p ∷ ps) m n fault
then-err (Err f) p ps m n fault first is more =
    let at : n + 0 ≡ n = omega arith in
    let here = first ∙ is in
    record { place = 0; within = omega arith; line = line-obeyed m n (reading p) fault here ∙ sym at; before = m; makes = run-none m n; stops = ap (λ l. obeyed m l (reading p)) at ∙ here }
then-err (Ok x) p ps m n fault first is more =
    let s = more x is in
    let at : n + suc s.place ≡ suc n + s.place = omega arith in
    record {
      place = suc s.place;
      within = omega (arith, s.within);
      line = s.line ∙ sym at;
      before = s.before;
      makes = run-cons m n (reading p) (map reading (take s.place ps)) ∙ ap (λ a. and_then a (λ x. run x (suc n) (map reading (take s.place ps)))) first ∙ s.makes;
      stops = ap (λ l. obeyed s.before l (reading (slice_index_or ps s.place []))) at ∙ s.stops;
    }

stopped : (ps : List (List ℕ)) (m : Made) (n : ℕ) (fault : Figures) → run m n (map reading ps) ≡ Err fault → Stops ps m n fault
stopped [] m n fault is = absurd (grind (arith, is, run-none m n))
stopped (p ∷ ps) m n fault is =
    then-err (obeyed m n (reading p)) p ps m n fault refl (sym (run-cons m n (reading p) (map reading ps)) ∙ is) (λ x. stopped ps x (suc n) fault)

-- ---- a line has a byte at least

onto_length : (b : ℕ) (ps : List (List ℕ)) → length (onto_first b ps) ≤ suc (length ps)
onto_length b [] = omega arith
onto_length b (p ∷ ps) = omega arith

few_pieces : (file : List ℕ) → length (pieces file) ≤ length file
few_pieces [] = omega arith
few_pieces (b ∷ bs) = by (b == 10) (few_pieces bs)
  where
    by : (t : Bool) → length (pieces bs) ≤ length bs → length (if t then (b ∷ []) ∷ pieces bs else onto_first b (pieces bs)) ≤ suc (length bs)
    by true few = omega (arith, few)
    by false few = omega (arith, few, onto_length b (pieces bs))

-- ---- of a file

too_long-ok : (b : Bool) (a : Result Made Figures) (m : Made) → (if b then Err (figures TooLong) else a) ≡ Ok m → a ≡ Ok m
too_long-ok true a m is = absurd (grind (arith, is))
too_long-ok false a m is = is

loaded-long : (file : List ℕ) → longest < length file → loaded file ≡ Err (figures TooLong)
unfolding loaded
loaded-long file long = let is : nat_lt longest (length file) ≡ true = grind (arith, nat_tests) in ap (λ b. if b then Err (figures TooLong) else run nothing_made 1 (map reading (pieces file))) is

pub loaded-short : (file : List ℕ) → length file ≤ longest → loaded file ≡ run nothing_made 1 (map reading (pieces file))
unfolding loaded
loaded-short file short = let is : nat_lt longest (length file) ≡ false = grind (arith, nat_tests) in ap (λ b. if b then Err (figures TooLong) else run nothing_made 1 (map reading (pieces file))) is

front-more : (file : List ℕ) (k : ℕ) → k < length (pieces file) → front file (suc k) ≡ and_then (front file k) (line_makes file (suc k))
unfolding behind
front-more file k low =
    let line : 1 + k ≡ suc k = omega arith in
    let place : k ≡ suc k - 1 = omega arith in
    run-more (pieces file) nothing_made 1 k low
    ∙ ap (λ l. and_then (front file k) (λ m. obeyed m l (reading (slice_index_or (pieces file) k [])))) line
    ∙ ap (λ i. and_then (front file k) (λ m. obeyed m (suc k) (reading (slice_index_or (pieces file) i [])))) place

at_fault : (file : List ℕ) (fault : Figures) → Stops (pieces file) nothing_made 1 fault → AtFault file fault
at_fault file fault s =
    let at : s.place ≡ fault.line - 1 = omega (arith, s.line) in
    record {
      first = omega (arith, s.line);
      last = omega (arith, s.line, s.within);
      before = s.before;
      makes = subst (λ i. run nothing_made 1 (map reading (take i (pieces file))) ≡ Ok s.before) at s.makes;
      stops = subst (λ i. obeyed s.before fault.line (reading (slice_index_or (pieces file) i [])) ≡ Err fault) at
          (subst (λ l. obeyed s.before l (reading (slice_index_or (pieces file) s.place [])) ≡ Err fault) (sym s.line) s.stops);
    }

told_small : (file : List ℕ) (fault : Figures) → loaded file ≡ Err fault → (longest < length file) ⊎ (length file ≤ longest) → fault.line < 65536
told_small file fault is (inr short) =
    let s = stopped (pieces file) nothing_made 1 fault (sym (loaded-short file short) ∙ is) in
    omega (arith, s.line, s.within, few_pieces file, short)
told_small file fault is (inl long) = let same : figures TooLong ≡ fault = grind (arith, is, loaded-long file long) in subst (λ (f : Figures). f.line < 65536) same (omega arith)

-- a byte more than the longest file has tells that it is too long
front_tells : (file : List ℕ) → (longest < length file) ⊎ (length file ≤ longest) → loaded (take 65536 file) ≡ loaded file
front_tells file (inr short) = ap loaded (take_all 65536 file (omega (arith, short)))
front_tells file (inl long) = loaded-long (take 65536 file) (omega (arith, length-take 65536 file, long)) ∙ sym (loaded-long file long)

pub by_front : FrontTells 65536
by_front file = front_tells file (cases_lt longest (length file))

pub line_by_line : (file : List ℕ) → LineByLine file
unfolding loaded
line_by_line file =
    record {
      none = run-none nothing_made 1;
      more = front-more file;
      all = λ short. loaded-short file short ∙ ap (λ ps. run nothing_made 1 (map reading ps)) (sym (take_all (length (pieces file)) (pieces file) (omega arith)));
      too_long = loaded-long file;
      without = λ m is. ok-front (pieces file) nothing_made 1 m (too_long-ok (nat_lt longest (length file)) (run nothing_made 1 (map reading (pieces file))) m is);
      fault = λ fault short is. at_fault file fault (stopped (pieces file) nothing_made 1 fault (sym (loaded-short file short) ∙ is));
      told = λ fault is. told_small file fault is (cases_lt longest (length file));
    }
