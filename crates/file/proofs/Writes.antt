-- Text laid into memory, a piece after another. Assumes nothing.
use Rattle.std.proofs.Common.{◌≡◌, refl, sym, ap, ◌∙◌, List, [], ◌∷◌, ◌++◌, ℕ, suc, ◌+◌, ◌-◌, ◌*◌, ◌/◌, ◌%◌, ◌^◌, ◌<◌, ◌≤◌, add-one, arith, drop, length, set, ⊎_elim}
use Rattle.std.proofs.lemmas.Bool.{cases_lt}
use Rattle.std.proofs.lemmas.List.{append-nil, length-append, length-set, set_past}
use Rattle.std.proofs.lemmas.List.Concat.{flat_map-append}
use Rattle.file.specs.Frames.{Frame, bytes_line, closed, closing, frame_line}
use Rattle.file.specs.Lines.{digit, pairs}
use Rattle.file.specs.Saved.{each, text_of}
use Rattle.file.specs.Writing.{Wrote, over}
use Rattle.file.specs.declared.writer.Writer.{Writer}

-- ---- over

length-over : (xs : List ℕ) (at : ℕ) (text : List ℕ) → length (over xs at text) ≡ length xs
unfolding over
length-over xs at [] = refl
length-over xs at (b ∷ bs) = length-over (set xs at b) (suc at) bs ∙ length-set xs at b

-- past the end nothing is laid
over-past : (xs : List ℕ) (at : ℕ) (text : List ℕ) → length xs ≤ at → over xs at text ≡ xs
unfolding over
over-past xs at [] past = refl
over-past xs at (b ∷ bs) past = ap (λ ys. over ys (suc at) bs) (set_past xs at b past) ∙ over-past xs (suc at) bs (omega arith)

over-append : (xs : List ℕ) (at : ℕ) (s t : List ℕ) → over xs at (s ++ t) ≡ over (over xs at s) (at + length s) t
unfolding over
over-append xs at [] t = ap (λ n. over xs n t) (omega arith)
over-append xs at (b ∷ bs) t = over-append (set xs at b) (suc at) bs t ∙ ap (λ n. over (over (set xs at b) (suc at) bs) n t) (omega arith)

over-cons : (x : ℕ) (xs : List ℕ) (at : ℕ) (text : List ℕ) → over (x ∷ xs) (suc at) text ≡ x ∷ over xs at text
unfolding over
over-cons x xs at [] = refl
over-cons x xs at (b ∷ bs) = over-cons x (set xs at b) (suc at) bs

-- a text that there is room for
pub over-front : (xs text : List ℕ) → length text ≤ length xs → over xs 0 text ≡ text ++ drop (length text) xs
unfolding over
over-front xs [] room = refl
over-front [] (b ∷ bs) room = absurd (omega arith)
over-front (x ∷ xs) (b ∷ bs) room = over-cons b xs 0 bs ∙ ap (λ ys. b ∷ ys) (over-front xs bs (omega arith))

-- ---- what a writer wrote

pub Wrote-none : (w : Writer) → Wrote w [] w
unfolding over
Wrote-none w = record { same = refl; laid = refl; counted = omega arith }

-- one text and then another; where the count stands still there is no more room
module _ {w x y : Writer} {s t : List ℕ} (sized : length w.out.now < 2 ^ 64) (a : Wrote w s x) (b : Wrote x t y) where
  beyond : {n : ℕ} → length w.out.now ≤ n → over (over w.out.now w.len s) n t ≡ over w.out.now w.len s
  beyond {n} past = over-past (over w.out.now w.len s) n t (omega (arith, length-over w.out.now w.len s))

  continued : over (over w.out.now w.len s) x.len t ≡ over (over w.out.now w.len s) (w.len + length s) t
  continued =
      ⊎_elim
      (λ lt. ap (λ n. over (over w.out.now w.len s) n t) (omega (arith, a.counted)))
      (λ ge. beyond (omega (arith, a.counted)) ∙ sym (beyond (omega arith)))
      (cases_lt (w.len + length s) (2 ^ 64 - 1))

  pub Wrote-then : Wrote w (s ++ t) y
  Wrote-then = record {
    same = b.same ∙ a.same;
    laid = b.laid ∙ ap (λ ys. over ys x.len t) a.laid ∙ continued ∙ sym (over-append w.out.now w.len s t);
    counted = omega (arith, length-append s t);
  }

-- ---- lines

pub pairs-append : (xs ys : List ℕ) → pairs (xs ++ ys) ≡ pairs xs ++ pairs ys
pairs-append [] ys = refl
pairs-append (b ∷ xs) ys = ap (λ ps. digit (b / 16) ∷ digit (b % 16) ∷ ps) (pairs-append xs ys)

pub line-closes : (bytes : List ℕ) → bytes_line bytes ≡ (pairs bytes ++ pairs (closing bytes ∷ [])) ++ 10 ∷ []
line-closes bytes = simp (append-nil, pairs-append)

pub length-pairs : (bytes : List ℕ) → length (pairs bytes) ≡ 2 * length bytes
length-pairs [] = refl
length-pairs (b ∷ bytes) = omega (arith, length-pairs bytes)

pub length-line : (bytes : List ℕ) → length (bytes_line bytes) ≡ 2 * length bytes + 3
length-line bytes =
    omega (
      arith,
      length-append (pairs (closed bytes)) (10 ∷ []),
      length-pairs (closed bytes),
      length-append bytes (closing bytes ∷ []),
    )

-- ---- frames

pub text-append : (fs gs : List Frame) → text_of (fs ++ gs) ≡ text_of fs ++ text_of gs
unfolding text_of
text-append fs gs = flat_map-append frame_line fs gs

each-more : (f : ℕ → List Frame) (i : ℕ) → each (i + 1) f ≡ each i f ++ f i
unfolding each
each-more f i = rw add-one

pub Frames-none : (w : Writer) → Wrote w (text_of []) w
unfolding text_of
Frames-none w = Wrote-none w

-- the frames of one more number
pub Frames-more : {w x y : Writer} (f : ℕ → List Frame) (i : ℕ) → length w.out.now < 2 ^ 64 → Wrote w (text_of (each i f)) x → Wrote x (text_of (f i)) y → Wrote w (text_of (each (i + 1) f)) y
Frames-more f i sized a b = rw (each-more f i, text-append (each i f) (f i)) (Wrote-then sized a b)
