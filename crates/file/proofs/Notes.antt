-- Notes: what is behind the digits of a line. Assumes nothing.
use Rattle.std.proofs.Common.{◌≡◌, ◌⊎◌, inl, inr, ⊎_elim, refl, subst, ap, Bool, true, false, ◌&&◌, if◌then◌else◌, ◌==◌, List, [], ◌∷◌, ◌++◌, ℕ, suc, ◌-◌, ◌<◌, IfSome, Option, Some, None, arith, drop, get_or, length, option_map, take}
use Rattle.std.proofs.lemmas.Bool.{cases_eq}
use Rattle.std.proofs.lemmas.Grind.{common_steps}
use Rattle.std.proofs.lemmas.List.{nil_from_length}
use Rattle.std.specs.Cmp.Derive.{both_true}
use Rattle.std.specs.List.{list_all}
use Rattle.file.specs.Lines.{note_in, note_bytes, prints, to_end}

pub and_both : (a b : Bool) → (a && b) ≡ true → (a ≡ true) × (b ≡ true)
and_both true b is = (refl, is)
and_both false b is = absurd (grind (arith, is))

-- ---- to the 0A

to_end-note_bytes : (note : List ℕ) → list_all prints note ≡ true → to_end (note ++ 10 ∷ []) ≡ Some note
to_end-note_bytes [] are = refl
to_end-note_bytes (c ∷ []) are = let k = and_both (prints c) true are in rw k.0 refl
to_end-note_bytes (c ∷ d ∷ cs) are =
    let k = and_both (prints c) (list_all prints (d ∷ cs)) are in
    rw (k.0, to_end-note_bytes (d ∷ cs) k.1) refl

-- one byte before a note
longer : (b : Bool) (c : ℕ) (o : Option (List ℕ)) (n : List ℕ) → (if b then option_map (λ m. c ∷ m) o else None) ≡ Some n → (b ≡ true) × ((m : List ℕ) × (o ≡ Some m) × (c ∷ m ≡ n))
longer true c None n is = absurd (grind (arith, is))
longer true c (Some m) n is = (refl, (m, refl, cc))
longer false c o n is = absurd (grind (arith, is))

noted-to_end : (bytes n : List ℕ) → to_end bytes ≡ Some n → (bytes ≡ n ++ 10 ∷ []) × (list_all prints n ≡ true)
noted-to_end [] n is = absurd (grind (arith, is))
noted-to_end (c ∷ []) [] is = (ap (λ b. b ∷ []) (grind (arith, common_steps)), refl)
noted-to_end (c ∷ []) (e ∷ n) is = absurd (grind (arith, common_steps))
noted-to_end (c ∷ d ∷ cs) n is =
    let (so, rest) = longer (prints c) c (to_end (d ∷ cs)) n is in
    let (m, found, same) = rest in
    let k = noted-to_end (d ∷ cs) m found in
    (rw (← same, k.0) refl, subst (λ xs. list_all prints xs ≡ true) same (both_true so k.1))

-- ---- the note

pub note_in-note_bytes : (note : Option (List ℕ)) → IfSome note (λ n. list_all prints n ≡ true) → note_in (note_bytes note ++ 10 ∷ []) ≡ Some note
unfolding note_in
note_in-note_bytes None are = refl
note_in-note_bytes (Some n) are = rw (to_end-note_bytes n are) refl

behind_blank : (o : Option (List ℕ)) (found : Option (List ℕ)) → option_map Some o ≡ Some found → (n : List ℕ) × (o ≡ Some n) × (found ≡ Some n)
behind_blank None found is = absurd (grind (arith, is))
behind_blank (Some n) found is = (n, refl, cc)

-- the choice by the first byte
chosen : (c : ℕ) (cs : List ℕ) (note : Option (List ℕ)) → note_in (c ∷ cs) ≡ Some note →
    ((c ≡ 32) × (option_map Some (to_end cs) ≡ Some note)) ⊎ ((c ≡ 10) × (length cs ≡ 0) × (note ≡ None))
unfolding note_in
chosen c cs n is =
    ⊎_elim (λ blank. inl (blank, grind (arith, common_steps)))
    (λ other. inr (grind (arith, common_steps), grind (arith, common_steps), grind (arith, common_steps)))
    (cases_eq c 32)

pub noted_in : (bytes : List ℕ) (note : Option (List ℕ)) → note_in bytes ≡ Some note → (bytes ≡ note_bytes note ++ 10 ∷ []) × IfSome note (λ n. list_all prints n ≡ true)
unfolding note_in
noted_in [] n is = absurd (grind (arith, is))
noted_in (c ∷ cs) n is =
    ⊎_elim
    (λ k.
    let (m, found, same) = behind_blank (to_end cs) n k.1 in
    let ends = noted-to_end cs m found in
    rw (same, k.0) (ap (λ bs. 32 ∷ bs) ends.0, ends.1))
    (λ k. rw (k.2, k.0, nil_from_length cs k.1) (refl, tt))
    (chosen c cs n is)

-- ---- by places, as a slice shows it

abbrev pub last : List ℕ → ℕ
last bytes = get_or bytes (length bytes - 1) 0

abbrev pub front : List ℕ → List ℕ
front bytes = take (length bytes - 1) bytes

abbrev pub inner : List ℕ → List ℕ
inner bytes = take (length bytes - 2) (drop 1 bytes)

-- of a list with a byte more
last_of : (c : ℕ) (cs : List ℕ) → 0 < length cs → last (c ∷ cs) ≡ last cs
last_of c cs some = let e : length (c ∷ cs) - 1 ≡ suc (length cs - 1) = omega (arith, some) in rw e refl

front_of : (c : ℕ) (cs : List ℕ) → 0 < length cs → front (c ∷ cs) ≡ c ∷ front cs
front_of c cs some = let e : length (c ∷ cs) - 1 ≡ suc (length cs - 1) = omega (arith, some) in rw e refl

inner_of : (c : ℕ) (cs : List ℕ) → inner (c ∷ cs) ≡ front cs
inner_of c cs = let e : length (c ∷ cs) - 2 ≡ length cs - 1 = omega arith in rw e refl

to_end_by_place : (c : ℕ) (cs : List ℕ) → to_end (c ∷ cs) ≡ (if last (c ∷ cs) == 10 && list_all prints (front (c ∷ cs)) then Some (front (c ∷ cs)) else None)
to_end_by_place c [] = grind (arith, common_steps)
to_end_by_place c (d ∷ cs) = rw (to_end_by_place d cs, last_of c (d ∷ cs) (omega arith), front_of c (d ∷ cs) (omega arith)) (grind (arith, common_steps))

pub note_by_place : (bytes : List ℕ) → note_in bytes ≡
    (if last bytes == 10 then
    (if length bytes == 1 then Some None else (if get_or bytes 0 0 == 32 && list_all prints (inner bytes) then Some (Some (inner bytes)) else None))
    else None)
unfolding note_in
note_by_place [] = refl
note_by_place (c ∷ []) = grind (arith, common_steps)
note_by_place (c ∷ d ∷ cs) = rw (to_end_by_place d cs, last_of c (d ∷ cs) (omega arith), inner_of c (d ∷ cs)) (grind (arith, common_steps))
