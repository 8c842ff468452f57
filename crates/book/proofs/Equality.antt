-- Equal books are equal values. Assumes nothing.
use Rattle.std.proofs.Common.{◌≡◌, refl, sym, ap, ap₂, subst, replicate, ◌++◌, ◌-◌, ◌∙◌, List, [], ℕ, ◌<◌, arith, length, get_or, length-take-le, None}
use Rattle.std.proofs.lemmas.Bool.Decides.{Decides-like}
use Rattle.std.proofs.lemmas.List.{get_or_default, get_or-map, same_lists, take-append-drop}
use Rattle.std.specs.Prelude.{◌↔◌, IsTrue}
use Rattle.book.specs.EqualLaws.{same-books, same-ramp-books, same-step-books, same-steps, standard_books_exact}
use Rattle.book.specs.Lists.{steps_in, used}
use Rattle.book.specs.Ramps.{ramp_of}
use Rattle.book.specs.Standard.{Alike, Contents, contents}
use Rattle.book.specs.Steps.{blank, steps_of}
use Rattle.book.specs.Weights.{weight_of}
use Rattle.book.specs.contracts.standard.StandardBookPartialEq.TheImpl.{eq-value as standard-book-eq}
use Rattle.book.specs.contracts.weights.Weights as weights
use Rattle.book.specs.declared.standard.StandardBook.{StandardBook}
use Rattle.book.specs.declared.step.Step.{Step}
use Rattle.book.specs.declared.step.StepBook.{StepBook}
use Rattle.book.specs.declared.step.Steps.{Steps}
use Rattle.book.specs.declared.weights.Weights.{Weights}
use denote.Struct.Record.{values_one}

-- ---- alike books

-- two lists of sixteen that read the same are the same
listed-same : {A : Type 0} (xs ys : List A) (d : A) → length xs ≡ 16 → length ys ≡ 16 → ((k : ℕ) → k < 16 → get_or xs k d ≡ get_or ys k d) → xs ≡ ys
listed-same xs ys d e f same =
    same_lists xs ys (e ∙ sym f) (λ k d' lt. get_or_default xs k d' d lt ∙ same k (omega arith) ∙ get_or_default ys k d d' (omega arith))

-- places with the same steps in use are the same, for the others are blank
back : (r : Steps) → used r ++ replicate (6 - r.len) blank ≡ r.list
back r = ap (λ ys. used r ++ ys) (sym r.clear) ∙ take-append-drop r.len r.list

len-back : (r : Steps) → length (used r) ≡ r.len
len-back r = length-take-le r.len r.list (omega (arith, r.whole, r.few))

same-used : (r s : Steps) → used r ≡ used s → r ≡ s
same-used r s e =
    let len : r.len ≡ s.len = sym (len-back r) ∙ ap length e ∙ len-back s in
    same-steps r s len (sym (back r) ∙ ap₂ (λ ys n. ys ++ replicate (6 - n) blank) e len ∙ back s)

-- so books with the same steps for each task are the same
same-steps-in : (x y : StepBook) → ((k : ℕ) → k < 16 → steps_of (steps_in x) k ≡ steps_of (steps_in y) k) → x ≡ y
same-steps-in x y same =
    same-step-books x y (same_lists x.steps y.steps (x.whole ∙ sym y.whole) (λ k d lt. same-used _ _
    (sym (get_or-map used x.steps k d [] lt) ∙ same k (omega (arith, x.whole)) ∙ get_or-map used y.steps k d [] (omega (arith, x.whole, y.whole)))))

pub same_steps : (x y : StepBook) → steps_in x ≡ steps_in y → x ≡ y
same_steps x y e = same-steps-in x y (λ k _. ap (λ (all : List (List Step)). steps_of all k) e)

same-weights : (x y : Weights) → x.list ≡ y.list → x ≡ y
same-weights x y e = values_one weights.struct weights.the_propositions x y (cc)

alike-same : (x y : StandardBook) → Alike (contents x) (contents y) → x ≡ y
alike-same x y a =
    let r = x.layers.inner.first in
    let r' = y.layers.inner.first in
    let w = x.layers.weights in
    let w' = y.layers.weights in
    same-books x y (same-ramp-books r r' (listed-same _ _ None r.whole r'.whole a.ramps)) (same-steps-in _ _ a.steps) (same-weights w w' (listed-same _ _ 1 w.whole w'.whole a.weights))

same-alike : (x y : StandardBook) → x ≡ y → Alike (contents x) (contents y)
same-alike x y e = subst (λ (z : StandardBook). Alike (contents x) (contents z)) e (record { ramps = λ k _. refl; steps = λ k _. refl; weights = λ k _. refl })

pub same_contents : (x y : StandardBook) → contents x ≡ contents y → x ≡ y
same_contents x y e =
    alike-same x y (record { ramps = λ k _. ap (λ (c : Contents). ramp_of c.ramps k) e; steps = λ k _. ap (λ (c : Contents). steps_of c.steps k) e; weights = λ k _. ap (λ (c : Contents). weight_of c.weights k) e })

-- so `==` finds the alike books
pub standard_books_alike : (x y : StandardBook) → IsTrue (standard-book-eq.it x y) ↔ Alike (contents x) (contents y)
standard_books_alike x y = Decides-like _ (same-alike x y) (alike-same x y) (standard_books_exact x y)
