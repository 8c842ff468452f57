-- What the tests of plans find is what plan answers and leaves. Assumes nothing.
use Rattle.std.proofs.Common.{◌≡◌, sym, ap, subst₂, ◌∙◌, ⊎_elim, List, ℕ, arith, get_or, Result, Ok, Err}
use Rattle.std.proofs.lemmas.Bool.Decides.{Decides-like}
use Rattle.std.proofs.lemmas.Grind.{common_steps}
use Rattle.book.specs.Worths.{Meaning}
use Rattle.common.proofs.Refusals.{number-pos}
use Rattle.common.specs.Refusals.{number, outcome}
use Rattle.common.specs.declared.refusal.Refusal.{Refusal}
use Rattle.common.specs.declared.refusal.Refusal.TheVariants.{NoOrder}
use Rattle.plan.proofs.Tests.{best, cell, none}
use Rattle.plan.proofs.Walks.{best-one}
use Rattle.plan.specs.BestOrder.{answered}
use Rattle.plan.specs.Cells.{Cell, Greatest}
use Rattle.plan.specs.Orders.{NoLawful, Order}
use Rattle.plan.specs.Planned.{Planned, Suffices}
use Rattle.plan.specs.Tests.{Found, TestsAnswer}
use Rattle.plan.specs.Totals.{Best, total}
use Rattle.sheet.proofs.Rules.{Sound}
use Rattle.sheet.specs.Tables.{Table}

-- two numbers are not both one more than the greatest
one-greatest : (P : Order → Type 0) (f : Order → ℕ) (v w : ℕ) → Greatest P f v → Greatest P f w → v ≡ w
one-greatest P f v w g h =
    ⊎_elim
    (λ e. ⊎_elim (λ e'. omega arith) (λ y. absurd (let b = g.bound y.0 y.1 in omega arith)) h.met)
    (λ x. ⊎_elim
    (λ e. absurd (let b = h.bound x.0 x.1 in omega arith))
    (λ y. let b = g.bound y.0 y.1 in let c = h.bound x.0 x.1 in omega (arith, x.2, y.2))
    h.met)
    g.met

-- no other refusal has the number 10
is-ten : (e : Refusal) → number e ≡ 10 → e ≡ NoOrder
is-ten e h = grind (arith, common_steps)

module _ (m : Meaning) (t : Table) (sound : Sound t) (cells cells' order order' : List ℕ) (enough : Suffices t cells order) where
  abbrev Promised : Result ℕ Refusal → Type 0
  Promised r = Planned m t cells cells' order order' r

  -- where some order is lawful, no refusal is answered
  not-refused : (e : Refusal) (o : Order) → Best m t o → Promised (Err e) → ⊥
  not-refused e o b p =
      ⊎_elim
      (λ zero. let z = number-pos e in omega arith)
      (⊎_elim (λ ten. (p.none.0 ten).1 o b.lawful) (λ short. p.memory.0 short enough))
      p.only

  best-found : (o : Order) (v : ℕ) (r : Result ℕ Refusal) → Promised r → (Best m t o × (v ≡ total m t o)) → (r ≡ Ok v) × (answered t order' ≡ o)
  best-found o v (Ok w) p b =
      let same = best-one m t (answered t order') o p.answer.best b.0 in
      (ap Ok (p.answer.totals ∙ ap (total m t) same ∙ sym b.1), same)
  best-found o v (Err e) p b = absurd (not-refused e o b.0 p)

  found-best : (o : Order) (v : ℕ) (r : Result ℕ Refusal) → Promised r → ((r ≡ Ok v) × (answered t order' ≡ o)) → Best m t o × (v ≡ total m t o)
  found-best o v (Ok w) p f = let same : w ≡ v = cc (f.0) in (rw (← f.1) p.answer.best, sym same ∙ p.answer.totals ∙ ap (total m t) f.1)
  found-best o v (Err e) p f = absurd (cc (f.0))

  none-found : (r : Result ℕ Refusal) → Promised r → NoLawful t → r ≡ Err NoOrder
  none-found (Ok w) p lawless = absurd (lawless _ p.answer.best.lawful)
  none-found (Err e) p lawless = ap Err (is-ten e (p.none.1 (enough, lawless)))

  found-none : (r : Result ℕ Refusal) → Promised r → r ≡ Err NoOrder → NoLawful t
  found-none r p e = (p.none.0 (ap outcome e)).1

  found : (r : Result ℕ Refusal) → Promised r → Found m t cells' order' r
  found r p =
      record {
        best = λ o v. Decides-like _ (best-found o v r p) (found-best o v r p) (best t sound m o v);
        none = Decides-like _ (none-found r p) (found-none r p) (none t sound);
        cell = λ s v lt.
            let here : Cell m t s (get_or cells' s 0) = (p.fills enough).0 s lt in
            Decides-like _ (λ c. one-greatest _ _ _ _ here c) (λ e. rw (← e) here) (cell t sound m s v);
      }

pub answering : (t : Table) → Sound t → TestsAnswer t
answering t sound m cells cells' order order' r p enough = found m t sound cells cells' order order' enough r p

-- what a caller cites where it is known which table t and which meaning m are: then the tests compute
pub found-of : (m n : Meaning) (t u : Table) (cells cells' order order' : List ℕ) (r : Result ℕ Refusal) → TestsAnswer t
    → Planned m t cells cells' order order' r → t ≡ u → m ≡ n → Suffices u cells order → Found n u cells' order' r
found-of m n t u cells cells' order order' r tests p is means enough =
    subst₂ (λ n u. Found n u cells' order' r) means is (tests m cells cells' order order' r p (rw is enough))
