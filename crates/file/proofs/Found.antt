-- The frame and the note that are found in a line are those that it is made of. Assumes nothing.
use Rattle.std.proofs.Common.{◌≡◌, refl, subst, sym, ◌∙◌, Bool, true, false, cond, ◌&&◌, if◌then◌else◌, ◌==◌, List, [], ◌∷◌, ◌++◌, ℕ, ◌+◌, ◌*◌, ◌/◌, ◌%◌, ◌<◌, All, IfSome, Option, Some, None, arith, drop, length, option_map, take, nat_lt}
use Rattle.std.proofs.lemmas.Grind.{common_steps}
use Rattle.std.proofs.lemmas.List.Elements.{All-from_recursion, recursion_from_All}
use Rattle.std.proofs.lemmas.List.Folds.{length-prefix_len}
use Rattle.std.proofs.lemmas.List.Sums.{AllPass-from_list_all, list_all-from_AllPass}
use Rattle.std.proofs.lemmas.List.{take-append-drop}
use Rattle.std.proofs.Math.Seq.{drop-append_seam, take-append_seam}
use native.Mathlib.Numerals.{one-add}
use Rattle.std.specs.List.{list_all, prefix_len, AllByRecursion}
use Rattle.file.proofs.Bytes.{length-bytes_of}
use Rattle.file.proofs.Writes.{length-pairs}
use Rattle.file.proofs.Notes.{and_both, note_in-note_bytes, noted_in}
use Rattle.file.specs.Lines.{IsLine, Parts, Prints, bytes_of, digit, is_digit, note_bytes, pairs, parts, prints, value}

-- Digits.

digit_digit : (n : ℕ) → n < 16 → is_digit (digit n) ≡ true
digit_digit n lt = grind (arith, common_steps)

value_digit : (n : ℕ) → n < 16 → value (digit n) ≡ n
value_digit n lt = grind (arith, common_steps)

digit_value : (c : ℕ) → is_digit c ≡ true → digit (value c) ≡ c
digit_value c is = grind (arith, common_steps)

value_small : (c : ℕ) → value c < 16
value_small c = grind (arith, common_steps)

-- From the bytes to the digits.

bytes_of-pairs : (bs : List ℕ) → AllByRecursion (λ b. b < 256) bs → bytes_of (pairs bs) ≡ bs
bytes_of-pairs [] small = refl
bytes_of-pairs (b ∷ bs) small =
    let high = value_digit (b / 16) (omega (arith, small.0)) in
    let low = value_digit (b % 16) (omega arith) in
    let all : 16 * (b / 16) + b % 16 ≡ b = omega arith in
    rw (high, low, all, bytes_of-pairs bs small.1) refl

prefix_len-pairs : (bs rest : List ℕ) → AllByRecursion (λ b. b < 256) bs → prefix_len is_digit rest ≡ 0 → prefix_len is_digit (pairs bs ++ rest) ≡ length (pairs bs)
prefix_len-pairs [] rest small none = none
prefix_len-pairs (b ∷ bs) rest small none =
    let high = digit_digit (b / 16) (omega (arith, small.0)) in
    let low = digit_digit (b % 16) (omega arith) in
    let e = prefix_len-pairs bs rest small.1 none in
    rw (high, low) (omega (arith, e))

-- From the digits to the bytes.

pairs-bytes_of : (ds : List ℕ) → list_all is_digit ds ≡ true → length ds % 2 ≡ 0 → pairs (bytes_of ds) ≡ ds
pairs-bytes_of [] are even = refl
pairs-bytes_of (h ∷ []) are even = absurd (omega (arith, even))
pairs-bytes_of (h ∷ l ∷ ds) are even =
    let is = and_both (is_digit h) (is_digit l && list_all is_digit ds) are in
    let also = and_both (is_digit l) (list_all is_digit ds) is.1 in
    let high : (16 * value h + value l) / 16 ≡ value h = omega (arith, value_small l) in
    let low : (16 * value h + value l) % 16 ≡ value l = omega (arith, value_small l) in
    rw (high, low, digit_value h is.0, digit_value l also.0, pairs-bytes_of ds also.1 (omega (arith, even))) refl

bytes_small : (ds : List ℕ) → AllByRecursion (λ b. b < 256) (bytes_of ds)
bytes_small [] = tt
bytes_small (h ∷ []) = tt
bytes_small (h ∷ l ∷ ds) = (omega (arith, value_small h, value_small l), bytes_small ds)

front_step : (b : Bool) (x n : ℕ) (xs : List ℕ) → is_digit x ≡ b → list_all is_digit (take n xs) ≡ true → list_all is_digit (take (cond b (1 + n) 0) (x ∷ xs)) ≡ true
front_step true x n xs is are = rw one-add (rw (is, are) refl)
front_step false x n xs is are = refl

digits_front : (xs : List ℕ) → list_all is_digit (take (prefix_len is_digit xs) xs) ≡ true
digits_front [] = refl
digits_front (x ∷ xs) = front_step (is_digit x) x (prefix_len is_digit xs) xs refl (digits_front xs)

-- Lines.

-- the choice by which the parts are found
picked : (b : Bool) (o : Option (Option (List ℕ))) (frame : List ℕ) (p : Parts) →
    (if b then option_map {U = Parts} (λ n. record { frame = frame; note = n }) o else None) ≡ Some p → (b ≡ true) × (o ≡ Some p.note) × (frame ≡ p.frame)
picked true None frame p is = absurd (grind (arith, is))
picked true (Some n) frame p is = (refl, cc, cc)
picked false o frame p is = absurd (grind (arith, is))

picked_is : (b : Bool) (o : Option (Option (List ℕ))) (found frame : List ℕ) (n : Option (List ℕ)) → b ≡ true → o ≡ Some n → found ≡ frame →
    (if b then option_map {U = Parts} (λ m. record { frame = found; note = m }) o else None) ≡ Some (record { frame = frame; note = n })
picked_is b o found frame n holds is same = rw (holds, is, same) refl

whole_pairs : (n : ℕ) → (nat_lt 0 n && (n % 2 == 0)) ≡ true → (0 < n) × (n % 2 ≡ 0)
whole_pairs n is = (grind (arith, common_steps), grind (arith, common_steps))

are_pairs : (n : ℕ) → 0 < n → (nat_lt 0 (2 * n) && (2 * n % 2 == 0)) ≡ true
are_pairs n some = let even : 2 * n % 2 ≡ 0 = omega arith in rw even (grind (arith, common_steps))

all_print : (note : Option (List ℕ)) → IfSome note (λ n. list_all prints n ≡ true) → IfSome note (All Prints)
all_print None are = tt
all_print (Some n) are = λ k d lt. let is = AllPass-from_list_all prints n are k d lt in (grind (arith, common_steps), grind (arith, common_steps))

prints_all : (note : Option (List ℕ)) → IfSome note (All Prints) → IfSome note (λ n. list_all prints n ≡ true)
prints_all None are = tt
prints_all (Some n) are = list_all-from_AllPass prints n (λ k d lt. let is = are k d lt in grind (arith, common_steps))

pub parts_are_line : (line : List ℕ) (p : Parts) → parts line ≡ Some p → IsLine line p.frame p.note
unfolding parts
parts_are_line line p is =
    let k = picked _ _ _ _ is in
    let n = prefix_len is_digit line in
    let digits = take n line in
    let count = whole_pairs n k.0 in
    let long = length-prefix_len is_digit line in
    let bytes = length-bytes_of digits in
    let behind = noted_in (drop n line) p.note k.1 in
    subst (λ frame. IsLine line frame p.note) k.2 (record {
      some = omega (arith, bytes, long, count.0);
      bytes = All-from_recursion (λ b. b < 256) (bytes_of digits) (bytes_small digits);
      prints = all_print p.note behind.1;
      made = sym (take-append-drop n line) ∙ rw (behind.0, pairs-bytes_of digits (digits_front line) (omega (arith, long, count.1))) refl;
    })

none_behind : (note : Option (List ℕ)) → prefix_len is_digit (note_bytes note ++ 10 ∷ []) ≡ 0
none_behind None = refl
none_behind (Some n) = refl

pub line_is_parts : (line frame : List ℕ) (note_is : Option (List ℕ)) → IsLine line frame note_is → parts line ≡ Some (record { frame = frame; note = note_is })
unfolding parts
line_is_parts line frame note_is is =
    let behind = note_bytes note_is ++ 10 ∷ [] in
    let ds = pairs frame in
    let small = recursion_from_All (λ b. b < 256) frame is.bytes in
    let count : prefix_len is_digit (ds ++ behind) ≡ length ds = prefix_len-pairs frame behind small (none_behind note_is) in
    let two : prefix_len is_digit (ds ++ behind) ≡ 2 * length frame = count ∙ length-pairs frame in
    rw is.made (picked_is _ _ _ _ _
    (rw two (are_pairs (length frame) is.some))
    (rw (count, drop-append_seam ds behind) (note_in-note_bytes note_is (prints_all note_is is.prints)))
    (rw (count, take-append_seam ds behind) (bytes_of-pairs frame small)))
