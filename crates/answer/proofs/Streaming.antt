-- What reads gave and writes took, together. Assumes nothing.
use Rattle.std.proofs.Common.{◌≡◌, sym, ap, ◌∙◌, subst, List, [], ◌++◌, ℕ, ◌+◌, ◌-◌, ◌<◌, ◌≤◌, arith, Option, None, Some, Result, Ok, drop, length, take, append-nil, take-add}
use Rattle.std.proofs.KnownBytes.{Appends-trans, Consumes-trans}
use Rattle.std.proofs.Math.Seq.{drop-append_seam, take-append_seam}
use Rattle.std.proofs.lemmas.List.{drop_all, length-drop, take_all, take_rest}
use Rattle.std.specs.Io.KnownBytes.{Appends, Consumes, IsAtEnd}
use Rattle.answer.specs.Streams.{IsRead, most_read}
use Rattle.common.specs.declared.refusal.Refusal.{Refusal}
use Rattle.file.specs.Saved.{Written}

-- there is no room for more
pub read-full : (a b : Option (List ℕ)) (file : List ℕ) → Consumes a b file → length file ≡ most_read → IsRead a b file
read-full None b file gave full = (omega (arith, full), tt)
read-full (Some xs) None file gave full = absurd gave
read-full (Some xs) (Some ys) file gave full =
    let front : file ≡ take most_read xs = sym (ap (take most_read) gave ∙ ap (λ n. take n (file ++ ys)) (sym full) ∙ take-append_seam file ys) in
    let rest : ys ≡ drop most_read xs = sym (ap (drop most_read) gave ∙ ap (λ n. drop n (file ++ ys)) (sym full) ∙ drop-append_seam file ys) in
    (omega (arith, full), (front, ap Some rest))

-- the reader has no more
pub read-all : (a b : Option (List ℕ)) (file : List ℕ) → Consumes a b file → length file ≤ most_read → IsAtEnd b → IsRead a b file
read-all None b file gave within ended = (within, tt)
read-all (Some xs) None file gave within ended = absurd gave
read-all (Some xs) (Some ys) file gave within ended =
    let all : xs ≡ file = gave ∙ ap (λ zs. file ++ zs) ended ∙ append-nil file in
    let few : length xs ≤ most_read = subst (λ zs. length zs ≤ most_read) (sym all) within in
    (within, (sym all ∙ sym (take_all most_read xs few), ap Some (ended ∙ sym (drop_all most_read xs few))))

-- a read gives nothing
pub read-ended : (a b c : Option (List ℕ)) (file buf : List ℕ) (n : ℕ) → Consumes a b file → length file ≤ most_read →
    Consumes b c (take n buf) → (n ≡ 0 → 0 < length buf → IsAtEnd c) → n ≡ 0 → 0 < length buf → IsRead a c file
read-ended a b c file buf n gave within gives end none room =
    let gives : Consumes b c [] = subst (λ n. Consumes b c (take n buf)) none gives in
    read-all a c file (subst (Consumes a c) (append-nil file) (Consumes-trans a b c file [] gave gives)) within (end none room)

-- a write takes n bytes of those behind the first k
pub took : (a b c : Option (List ℕ)) (line : List ℕ) (k n : ℕ) → Appends a b (take k line) → Appends b c (take n (take (length line - k) (drop k line))) → Appends a c (take (k + n) line)
took a b c line k n held more =
    let more : Appends b c (take n (drop k line)) = subst (λ rest. Appends b c (take n rest)) (take_rest line k) more in
    subst (Appends a c) (sym (take-add k n line)) (Appends-trans a b c (take k line) (take n (drop k line)) held more)

pub took-within : (line : List ℕ) (k n : ℕ) → k < length line → n ≤ length (take (length line - k) (drop k line)) → k + n ≤ length line
took-within line k n more bound =
    let rest : length (take (length line - k) (drop k line)) ≡ length line - k = ap length (take_rest line k) ∙ length-drop k line in
    omega (arith, more, bound, rest)

-- what is written to the front of the memory is the line
pub front : (text out out' : List ℕ) (r : Result ℕ Refusal) (len : ℕ) → Written text out out' r → r ≡ Ok len → take len out' ≡ text
front text out out' r len w is =
    let w : Written text out out' (Ok len) = subst (Written text out out') is w in
    ap (take len) w.2 ∙ ap (λ n. take n (text ++ drop len out)) w.0 ∙ take-append_seam text (drop len out)
