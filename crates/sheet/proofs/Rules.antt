-- The rules of a sheet: what one task more or another in its place keeps. Assumes nothing.
use Rattle.std.proofs.Common.{◌≡◌, refl, sym, ◌∙◌, true, cond, [], ◌∷◌, ◌++◌, ℕ, ◌<◌, arith, eqb, length, lit≤, set, length-append, length-set, get_or-set_other}
use Rattle.std.proofs.lemmas.Bool.{both_ways}
use Rattle.std.proofs.lemmas.Bool.Decides.{nat_tests}
use Rattle.std.proofs.lemmas.Grind.{common_steps, elements, get_or-set_at}
use Rattle.std.proofs.lemmas.List.{get_or-append_right, get_or_past}
use Rattle.std.proofs.lemmas.List.Elements.{All-nil, All-push, All-set}
use Rattle.common.proofs.Sets.{has-none}
use Rattle.common.specs.Sets.{has}
use Rattle.sheet.proofs.Paths.{carried}
use Rattle.sheet.specs.Links.{Path, one, more, linked}
use Rattle.sheet.specs.Rules.{Lasts, InRange, Acyclic, Keeps}
use Rattle.sheet.specs.Sheets.{table}
use Rattle.sheet.specs.Tables.{Table, blank, task_of}
use Rattle.sheet.specs.declared.sheet.Sheet.{Sheet}
use Rattle.sheet.specs.declared.table.Task.{Task}

-- the rules, by a short name of proofs
abbrev pub Sound : Table → Type 0
Sound t = Keeps t

pub sound-of : (s : Sheet) → Sound (table s)
sound-of s = s.keeps

-- ---- the empty table

unlinked : (a b : ℕ) → linked [] a b ≡ true → ⊥
unfolding linked
unlinked a b l = both_ways _ (has-none a) l

pub empty_sound : Sound []
empty_sound =
    record {
      few = lit≤ tt;
      lasting = All-nil Lasts;
      due = All-nil InRange;
      known = λ a b l. absurd (unlinked a b l);
      acyclic = acyclic;
    }
  where
    acyclic : (k : ℕ) → Path [] k k → ⊥
    acyclic k (one l) = unlinked k k l
    acyclic k (more {c = c} l p) = unlinked k c l

-- ---- one task more, to which no link leads

module _ (t : Table) (x : Task) (alone : x.before.0 ≡ 0) where
  -- no link is new
  linked-pushed : (u v : ℕ) → linked (t ++ x ∷ []) u v ≡ linked t u v
  unfolding linked
  linked-pushed u v = grind (arith, common_steps, elements, alone, get_or_past t v blank, get_or-append_right t (x ∷ []) (length t) v blank refl)

  pub sound-pushed : Sound t → length t < 16 → Lasts x → InRange x → Sound (t ++ x ∷ [])
  sound-pushed r less lasts due =
      record {
        few = omega (arith, length-append t (x ∷ []), less);
        lasting = All-push Lasts t x r.lasting lasts;
        due = All-push InRange t x r.due due;
        known = λ u v l. grind (arith, common_steps, linked-pushed u v, r.known u v);
        acyclic = λ k p. r.acyclic k (carried (t ++ x ∷ []) t (λ u v l. one (sym (linked-pushed u v) ∙ l)) p);
      }

-- ---- another task in the place of task b

module _ (t : Table) (b : ℕ) (x : Task) (there : b < length t) where
  pub linked-put : (u v : ℕ) → linked (set t b x) u v ≡ cond (eqb v b) (has x.before.0 u) (linked t u v)
  unfolding linked
  linked-put u v = grind (arith, nat_tests, get_or-set_at t b v x blank, get_or-set_other t b v x blank)

  pub sound-put : Sound t → Lasts x → InRange x → ((u : ℕ) → has x.before.0 u ≡ true → u < length t) → Acyclic (set t b x) → Sound (set t b x)
  sound-put r lasts due from acyclic =
      record {
        few = omega (arith, length-set t b x, r.few);
        lasting = All-set Lasts t b x lasts r.lasting;
        due = All-set InRange t b x due r.due;
        known = λ u v l. grind (arith, nat_tests, linked-put u v, from u, r.known u v, length-set t b x);
        acyclic = acyclic;
      }

  -- no link is new
  pub sound-unlinked : Sound t → Lasts x → InRange x → ((u : ℕ) → has x.before.0 u ≡ true → has (task_of t b).before.0 u ≡ true) → Sound (set t b x)
  unfolding linked
  sound-unlinked r lasts due less =
      sound-put r lasts due (λ u h. (r.known u b (less u h)).0)
      (λ k p. r.acyclic k (carried (set t b x) t (λ u v l. one (grind (arith, nat_tests, linked-put u v, less u))) p))
