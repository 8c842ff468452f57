-- Where the order lies in the bytes, that there is room for their line, and how long one is. Assumes nothing.
use Rattle.std.proofs.Common.{◌≡◌, refl, ap, sym, ◌∙◌, List, ◌++◌, ℕ, ◌≤◌, Result, Ok, Err, arith, drop, length, take, length-take-le}
use Rattle.std.specs.Prelude.{IsOk}
use Rattle.std.proofs.Math.Seq.{drop-append_seam}
use Rattle.std.proofs.lemmas.List.{length-append, length-drop, take-append-le}
use Rattle.answer.specs.Answers.{order_bytes}
use Rattle.common.specs.declared.refusal.Refusal.{Refusal}
use Rattle.file.proofs.Writes.{length-line}
use Rattle.file.specs.Frames.{bytes_line, three}
use Rattle.file.specs.Saved.{Written}
use borrow.Rule.Slice.PartMut.{mid_of, post_of, put_mid}

-- behind the first two bytes stands what was put there
pub order-behind : (xs ys : List ℕ) (n : ℕ) → length xs ≡ 19 → n ≤ length ys → take n (drop 2 (put_mid 2 14 xs ys)) ≡ take n ys
order-behind xs ys n long few =
    let two : length (take 2 xs) ≡ 2 = length-take-le 2 xs (omega (arith, long)) in
    let rest = ys ++ post_of 2 14 xs in
    ap (take n) (ap (λ k. drop k (take 2 xs ++ rest)) (sym two) ∙ drop-append_seam (take 2 xs) rest) ∙ take-append-le n ys (post_of 2 14 xs) few

-- there is room for fourteen tasks
pub room : (xs : List ℕ) → length xs ≡ 19 → length (mid_of 2 14 xs) ≡ 14
room xs long = length-take-le 14 (drop 2 xs) (omega (arith, length-drop 2 xs, long))

-- where there is room for the line it is not refused
pub roomy : (bytes out out' : List ℕ) (r : Result ℕ Refusal) → length bytes ≤ 19 → Written (bytes_line bytes) out out' r → 41 ≤ length out → IsOk r
roomy bytes out out' (Ok len) few w wide = refl
roomy bytes out out' (Err e) few w wide = absurd (omega (arith, length-line bytes, few, w.1, wide))

-- the line of an order of fourteen tasks
pub full-line : (o : List ℕ) (v : ℕ) → length o ≡ 14 → length (bytes_line (order_bytes o v)) ≡ 41
full-line o v many = omega (arith, length-line (order_bytes o v), length-append o (three v), many)
