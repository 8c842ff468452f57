-- That equal books are the same value, which `==` of each kind shows. No contract cites these proofs. Assumes nothing.
use Rattle.std.proofs.Common.{◌≡◌, refl, ap, Bool, Option, Some, None, Decides}
use Rattle.std.proofs.lemmas.Bool.{false≢true}
use Rattle.std.proofs.lemmas.Bool.Decides.{Decides-and, Decides-eqb, Decides-like}
use Rattle.std.proofs.lemmas.Option.{same_Some}
use Rattle.std.specs.Option.{option_eq}
use Rattle.std.specs.Prelude.{◌↔◌, IsTrue}
use Rattle.std.specs.contracts.option.Option as option
use Rattle.book.specs.contracts.ramp.Ramp as ramp
use Rattle.book.specs.contracts.ramp.RampBook as ramp-book
use Rattle.book.specs.contracts.ramp.RampBookPartialEq.TheImpl.{eq-value as ramp-book-eq}
use Rattle.book.specs.contracts.ramp.RampExact.TheImpl.Laws.{exact-law as ramp-exact}
use Rattle.book.specs.contracts.standard.StandardBookPartialEq.TheImpl.{eq-value as standard-book-eq}
use Rattle.book.specs.contracts.step.Step as step
use Rattle.book.specs.contracts.step.StepBook as step-book
use Rattle.book.specs.contracts.step.StepBookPartialEq.TheImpl.{eq-value as step-book-eq}
use Rattle.book.specs.contracts.step.StepExact.TheImpl.Laws.{exact-law as step-exact}
use Rattle.book.specs.contracts.step.Steps as steps
use Rattle.book.specs.contracts.step.StepsPartialEq.TheImpl.{eq-value as steps-eq}
use Rattle.book.specs.contracts.weights.Weights as weights
use Rattle.book.specs.declared.ramp.RampBook.{RampBook}
use Rattle.book.specs.declared.standard.StandardBook.{StandardBook}
use Rattle.book.specs.declared.step.StepBook.{StepBook}
use Rattle.book.specs.declared.step.Steps.{Steps}
use denote.Struct.Record.{values_one}
use lib.Pointwise.{pointwise_decides, bytes_decides}

-- ---- a value is its fields

pub same-steps : (x y : Steps) → x.len ≡ y.len → x.list ≡ y.list → x ≡ y
same-steps x y len list = values_one steps.struct (steps.the_propositions step.the_row.coded) x y (λ i. (len i, (list i, tt)))

pub same-ramp-books : (x y : RampBook) → x.ramps ≡ y.ramps → x ≡ y
same-ramp-books x y e =
    values_one ramp-book.struct (ramp-book.the_propositions (option.the_row ramp.the_row).coded ramp.the_row.coded) x y (ap (λ l. (l, tt)) e)

pub same-step-books : (x y : StepBook) → x.steps ≡ y.steps → x ≡ y
same-step-books x y e = values_one step-book.struct (step-book.the_propositions steps.the_row.coded) x y (ap (λ l. (l, tt)) e)

pub same-books : (x y : StandardBook) → x.layers.inner.first ≡ y.layers.inner.first → x.layers.inner.second ≡ y.layers.inner.second → x.layers.weights ≡ y.layers.weights → x ≡ y
same-books x y r s w = λ i. record { layers = record { inner = record { first = r i; second = s i }; weights = w i } }

-- ---- `==` compares the fields

options-decide : {X : Type 0} (E : X → X → Bool) → ((x y : X) → Decides (E x y) (x ≡ y)) → (o p : Option X) → Decides (option_eq E o p) (o ≡ p)
options-decide E each None None = (λ _. refl, λ _. refl)
options-decide E each None (Some y) = (λ h. absurd (false≢true h), λ e. cc)
options-decide E each (Some x) None = (λ h. absurd (false≢true h), λ e. cc)
options-decide E each (Some x) (Some y) = Decides-like _ (ap Some) (same_Some x y) (each x y)

steps_exact : (x y : Steps) → IsTrue (steps-eq.it x y) ↔ (x ≡ y)
steps_exact x y =
    Decides-like _ (λ h. same-steps x y h.0 h.1) (λ e. (ap (λ (s : Steps). s.len) e, ap (λ (s : Steps). s.list) e))
    (Decides-and _ _ (Decides-eqb _ _) (pointwise_decides step-exact _ _))

pub ramp_books_exact : (x y : RampBook) → IsTrue (ramp-book-eq.it x y) ↔ (x ≡ y)
ramp_books_exact x y = Decides-like _ (same-ramp-books x y) (ap (λ (b : RampBook). b.ramps)) (pointwise_decides (options-decide _ ramp-exact) _ _)

pub step_books_exact : (x y : StepBook) → IsTrue (step-book-eq.it x y) ↔ (x ≡ y)
step_books_exact x y = Decides-like _ (same-step-books x y) (ap (λ (b : StepBook). b.steps)) (pointwise_decides steps_exact _ _)

pub standard_books_exact : (x y : StandardBook) → IsTrue (standard-book-eq.it x y) ↔ (x ≡ y)
standard_books_exact x y =
    Decides-like _ (λ h. same-books x y h.0.0 h.0.1 (values_one weights.struct weights.the_propositions _ _ (ap (λ l. (l, tt)) h.1)))
    (λ e. ((ap (λ (b : StandardBook). b.layers.inner.first) e, ap (λ (b : StandardBook). b.layers.inner.second) e), ap (λ (b : StandardBook). b.layers.weights.list) e))
    (Decides-and _ _ (Decides-and _ _ (ramp_books_exact _ _) (step_books_exact _ _)) (bytes_decides _ _))
