-- `reaches` is the test of a path, and what a link more or less does to paths. Assumes nothing.
use Rattle.std.proofs.Common.{◌≡◌, refl, sym, true, ◌&&◌, ◌⊎◌, inl, inr, ⊎_elim, ℕ, zero, suc, ◌<◌, arith, eqb, Decides, length}
use Rattle.std.proofs.lemmas.Bool.{or_cases, or_left, and_parts}
use Rattle.std.proofs.lemmas.Bool.Decides.{Decides-eqb, Decides-or}
use Rattle.std.proofs.lemmas.Grind.{common_steps}
use Rattle.sheet.specs.Links.{Path, one, more, linked, via, reaches, up}
use Rattle.sheet.specs.Rules.{Known}
use Rattle.sheet.specs.Tables.{Table}

-- u is x, or a path leads from it to x
abbrev pub Up : Table → ℕ → ℕ → Type 0
Up t u x = (u ≡ x) ⊎ Path t u x

module _ (t : Table) where
  pub join : {a b c : ℕ} → Path t a b → Path t b c → Path t a c
  join (one l) q = more l q
  join (more l p) q = more l (join p q)

  -- a link, then no link or a path
  pub onward : {a b c : ℕ} → linked t a b ≡ true → Up t b c → Path t a c
  onward l (inl e) = one (rw (← e) l)
  onward l (inr p) = more l p

  pub climb : {a b c : ℕ} → Up t a b → Up t b c → Up t a c
  climb (inl e) q = rw e q
  climb (inr p) (inl e) = inr (rw (← e) p)
  climb (inr p) (inr q) = inr (join p q)

  -- a path, and its last link
  pub last-link : {u x : ℕ} → Path t u x → (q : ℕ) × Up t u q × (linked t q x ≡ true)
  last-link {u} (one l) = (u, inl refl, l)
  last-link (more l p) = let s = last-link p in (s.0, inr (onward l s.1), s.2)

  via-path : (k a b : ℕ) → via t k a b ≡ true → Path t a b
  unfolding via
  via-path zero a b e = one e
  via-path (suc k) a b e =
      ⊎_elim
      (via-path k a b)
      (λ both. let h = and_parts _ _ both in join (via-path k a k h.0) (via-path k k b h.1))
      (or_cases (via t k a b) (via t k a k && via t k k b) e)

  via-joins : (k a c b : ℕ) → c < k → via t k a c ≡ true → via t k c b ≡ true → via t k a b ≡ true
  unfolding via
  via-joins zero a c b lt e f = absurd (omega arith)
  via-joins (suc k) a c b lt e f = grind (arith, common_steps, via-joins k a c b, via-joins k a c k, via-joins k k c b)

  via-link : (k a b : ℕ) → linked t a b ≡ true → via t k a b ≡ true
  unfolding via
  via-link zero a b e = e
  via-link (suc k) a b e = or_left _ _ (via-link k a b e)

  module _ (known : Known t) where
    reached : {a b : ℕ} → Path t a b → reaches t a b ≡ true
    unfolding reaches
    reached {a} {b} (one l) = via-link (length t) a b l
    reached {a} {b} (more {c = c} l p) = via-joins (length t) a c b ((known a c l).1) (via-link (length t) a c l) (reached p)

    pub reaches-decides : (a b : ℕ) → Decides (reaches t a b) (Path t a b)
    unfolding reaches
    reaches-decides a b = (via-path (length t) a b, reached)

    pub up-decides : (u x : ℕ) → Decides (up t u x) (Up t u x)
    unfolding up
    up-decides u x = Decides-or (eqb u x) (reaches t u x) (Decides-eqb u x) (reaches-decides u x)

-- where each link of t is a path of t', so is each path
pub carried : (t t' : Table) → ((a b : ℕ) → linked t a b ≡ true → Path t' a b) → {a b : ℕ} → Path t a b → Path t' a b
carried t t' each (one {a = a} {b = b} l) = each a b l
carried t t' each (more {a = a} {c = c} l p) = join t' (each a c l) (carried t t' each p)

-- one link more, from p to q: a path is old, or goes through the link
module _ (t t' : Table) (p q : ℕ) (new : (a b : ℕ) → linked t' a b ≡ true → (linked t a b ≡ true) ⊎ ((a ≡ p) × (b ≡ q))) where
  wider : {a b : ℕ} → Path t' a b → Path t a b ⊎ (Up t a p × Up t q b)
  wider (one {a = a} {b = b} l) = ⊎_elim (λ old. inl (one old)) (λ is. inr (inl is.0, inl (sym is.1))) (new a b l)
  wider (more {a = a} {c = c} {b = b} l r) =
      ⊎_elim
      (λ old. ⊎_elim (λ s. inl (more old s)) (λ s. inr (inr (onward t old s.0), s.1)) (wider r))
      (λ is. inr (inl is.0, ⊎_elim (λ s. inr (rw (← is.1) s)) (λ s. s.1) (wider r)))
      (new a c l)

  -- so where q is not above p, no circle is closed
  pub still-acyclic : ((k : ℕ) → Path t k k → ⊥) → (Up t q p → ⊥) → (k : ℕ) → Path t' k k → ⊥
  still-acyclic acyclic off k c = ⊎_elim (acyclic k) (λ s. off (climb t s.1 s.0)) (wider c)
