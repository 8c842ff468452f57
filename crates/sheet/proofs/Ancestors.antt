-- Up-sets gathered one after another, and what makes the descent end. Assumes nothing.
use Rattle.std.proofs.Common.{◌≡◌, Bool, true, ◌&&◌, ◌||◌, inl, inr, ⊎_elim, ℕ, ◌<◌, arith, eqb, length}
use Rattle.std.proofs.lemmas.Bool.{false_from_ne_true}
use Rattle.std.proofs.lemmas.Bool.Decides.{Decides-and, Decides-eqb, Decides-like, Decides-or, same_from_decides}
use Rattle.common.proofs.Sets.{has-none, any-decides, sum-less}
use Rattle.common.specs.Sets.{has, any, sum_where}
use Rattle.sheet.proofs.Paths.{Up, join, climb, last-link, reaches-decides, up-decides}
use Rattle.sheet.specs.Links.{one, more, Closed, linked, reaches, up}
use Rattle.sheet.specs.Rules.{Acyclic, Known}
use Rattle.sheet.specs.Tables.{Table}

-- how many tasks have a path to x
pub ancestors : Table → ℕ → ℕ
ancestors t x = sum_where (λ u. reaches t u x) (λ _. 1) (length t)

-- a set that is closed has the up-set of each of its members
pub closed-up : (t : Table) (s : ℕ) → Closed t s → {u x : ℕ} → Up t u x → has s x ≡ true → has s u ≡ true
closed-up t s closed (inl e) h = rw e h
closed-up t s closed {u} {x} (inr (one l)) h = closed u x l h
closed-up t s closed {u} (inr (more {c = c} l p)) h = closed u c l (closed-up t s closed (inr p) h)

-- from a task to each one linked to it, the count falls
pub fewer : (t : Table) → Known t → Acyclic t → (p x : ℕ) → linked t p x ≡ true → ancestors t p < ancestors t x
unfolding ancestors
fewer t known acyclic p x l =
    let test = reaches-decides t known in
    sum-less _ _ (λ _. 1) (λ u e. (test u x).1 (join t ((test u p).0 e) (one l))) (length t) p (known p x l).0
    (false_from_ne_true _ (λ e. acyclic p ((test p p).0 e)))
    ((test p x).1 (one l))
    (omega arith)

module _ (t : Table) (known : Known t) where
  -- x, and the up-sets of the tasks linked to x: that is the up-set of x
  pub up-by-links : (u x : ℕ) → up t u x ≡ (eqb u x || any (length t) (λ q. linked t q x && up t u q))
  up-by-links u x =
      let test = up-decides t known in
      let last = any-decides (length t) _ (λ q. (linked t q x ≡ true) × Up t u q) (λ q. Decides-and (linked t q x) (up t u q) (λ e. e, λ e. e) (test u q)) in
      same_from_decides _ _ (test u x) (Decides-like _
      (⊎_elim inl (λ f. climb t f.2.1 (inr (one f.2.0))))
      (⊎_elim inl (λ p. let s = last-link t p in inr (s.0, (known s.0 x s.2).0, (s.2, s.1))))
      (Decides-or (eqb u x) _ (Decides-eqb u x) last))

pub up-linked : (t : Table) → Known t → (a b x : ℕ) → linked t a b ≡ true → up t b x ≡ true → up t a x ≡ true
up-linked t known a b x l h = (up-decides t known a x).1 (climb t (inr (one l)) ((up-decides t known b x).0 h))

pub up-there : (t : Table) → Known t → (s : ℕ) → Closed t s → (u x : ℕ) → has s x ≡ true → up t u x ≡ true → has s u ≡ true
up-there t known s closed u x h e = closed-up t s closed ((up-decides t known u x).0 e) h

-- `all` has `found` and the up-sets of those tasks below n that pass `which`, and it is closed
pub record Gathered (t : Table) (which : ℕ → Bool) (found all n : ℕ) : Type 0 where
  pub closed : Closed t all
  pub holds : (u : ℕ) → has all u ≡ (has found u || any n (λ q. which q && up t u q))

-- what finds that a task is in its up-set with all that have a path to it
pub ruleset climbing = (has-none, up-decides)

-- what finds that up-sets are gathered
pub ruleset gathering = (has-none, up-linked, up-there)

-- what finds that the descent into a task gathers up-sets, and ends
pub ruleset entering = (up-linked, up-there, fewer)
