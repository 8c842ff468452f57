-- What the lines of a file make, line by line. Assumes nothing.
use Rattle.std.proofs.Common.{◌≡◌, refl, sym, ap, ◌∙◌, List, [], ◌∷◌, ℕ, suc, ◌+◌, Result, Ok, Err, add-one, arith, length, map}
use Rattle.std.proofs.lemmas.List.{nil_from_length}
use Rattle.std.proofs.lemmas.Result.{err_from_is_err_and}
use Rattle.std.specs.Result.{IsErrAnd, MatchResult, result_map_both}
use Rattle.common.specs.declared.refusal.Refusal.{Refusal}
use Rattle.file.specs.Faults.{Figures, figures, unread}
use Rattle.file.specs.Lines.{pieces}
use Rattle.file.specs.Loads.{Made, and_then, call_of, called, obeyed, run}
use Rattle.file.specs.Readings.{Reading, reading, reading_now}
use Rattle.file.specs.declared.call.Call.{Call}
use Rattle.file.specs.declared.fault.Fault.{Fault}
use Rattle.file.specs.declared.reading.Reading.{Reading as ReadingSlices}

-- the first line is obeyed, and then the rest
pub run-cons : (m : Made) (n : ℕ) (r : Result Reading Refusal) (rs : List (Result Reading Refusal)) → run m n (r ∷ rs) ≡ and_then (obeyed m n r) (λ made. run made (suc n) rs)
unfolding run
run-cons m n r rs = refl

pub run-none : (m : Made) (n : ℕ) → run m n [] ≡ Ok m
unfolding run
run-none m n = refl

-- ---- what is read of a piece

-- it can't be read
pub unread-of : {P : Refusal → Fault → Type 0} (piece : List ℕ) (n : ℕ) (o : Result ReadingSlices Refusal) (s : Result ReadingSlices Fault) (fault : Fault) → result_map_both reading_now (λ e. e) o ≡ reading piece →
    MatchResult o (λ x. s ≡ Ok x) (λ e. IsErrAnd s (λ f. P e f)) → s ≡ Err fault → ((e : Refusal) (f : Fault) → P e f → figures f ≡ unread n e)
    → (cause : Refusal) × (reading piece ≡ Err cause) × (figures fault ≡ unread n cause)
unread-of piece n (Ok r) s fault is cases err tells = absurd (grind (arith, cases, err))
unread-of piece n (Err e) s fault is cases err tells =
    let (f, same, told) = err_from_is_err_and s cases in
    (e, sym is, grind (arith, same, tells e f told, err))

-- it is read
pub read-of : (P : Refusal → Fault → Type 0) (piece : List ℕ) (o : Result ReadingSlices Refusal) (s : Result ReadingSlices Fault) (r : ReadingSlices) → result_map_both reading_now (λ e. e) o ≡ reading piece →
    MatchResult o (λ x. s ≡ Ok x) (λ e. IsErrAnd s (λ f. P e f)) → s ≡ Ok r → reading piece ≡ Ok (reading_now r)
read-of P piece (Ok x) s r is cases ok = let same : x ≡ r = cc in sym is ∙ ap (λ x. Ok (reading_now x)) same
read-of P piece (Err e) s r is cases ok =
    let (f, same, told) = err_from_is_err_and s cases in
    absurd (grind (arith, same, ok))

-- ---- of a file with a first piece, and what the whole file makes

module _ (m : Made) (n : ℕ) (file piece behind : List ℕ) (whole : Result Made Figures)
    (makes : run m n (map reading (pieces file)) ≡ whole) (cut : pieces file ≡ piece ∷ pieces behind) where
  more : Made → Result Made Figures
  more made = run made (suc n) (map reading (pieces behind))

  run-first : whole ≡ and_then (obeyed m n (reading piece)) more
  unfolding more
  run-first = sym makes ∙ ap (λ ps. run m n (map reading ps)) cut ∙ run-cons m n (reading piece) (map reading (pieces behind))

  pub run-unread : (cause : Refusal) (fault : Figures) → reading piece ≡ Err cause → fault ≡ unread n cause → whole ≡ Err fault
  run-unread cause fault is told = run-first ∙ ap (λ r. and_then (obeyed m n r) more) is ∙ ap Err (sym told)

  module _ (r : Reading) (call : Call) (is : reading piece ≡ Ok r) (calls : call ≡ call_of r.frame) where
    run-called : whole ≡ and_then (called m n call) more
    run-called = run-first ∙ ap (λ r. and_then (obeyed m n r) more) is ∙ ap (λ call. and_then (called m n call) more) (sym calls)

    pub run-refused : (fault : Figures) → called m n call ≡ Err fault → whole ≡ Err fault
    run-refused fault refused = run-called ∙ ap (λ a. and_then a more) refused

    pub run-accepted : (m' : Made) → called m n call ≡ Ok m' → run m' (n + 1) (map reading (pieces behind)) ≡ whole
    unfolding more
    run-accepted m' made = ap (λ n. run m' n (map reading (pieces behind))) (add-one n) ∙ sym (run-called ∙ ap (λ a. and_then a more) made)

pub run-done : (m : Made) (n : ℕ) (file : List ℕ) → length file ≡ 0 → run m n (map reading (pieces file)) ≡ Ok m
run-done m n file none = rw (nil_from_length file none) (run-none m n)
