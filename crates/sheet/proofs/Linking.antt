-- What `link` and `cut` do to links, paths and up-sets. Assumes nothing.
use Rattle.std.proofs.Common.{◌≡◌, ap, ◌∙◌, true, not, ◌&&◌, ◌||◌, inl, inr, ⊎_elim, ℕ, arith, eqb, eqb-true, set}
use Rattle.std.proofs.lemmas.Bool.{cases_Bool, cond-true, and_parts}
use Rattle.std.proofs.lemmas.Bool.Decides.{nat_tests, same_from_decides, Decides-like}
use Rattle.std.proofs.lemmas.Grind.{common_steps}
use Rattle.std.proofs.lemmas.List.{set-get_or}
use Rattle.common.proofs.Refusals.{fitting, number-pos}
use Rattle.common.proofs.Sets.{has-adding, has-removing}
use Rattle.sheet.proofs.Kept.{Accepted, keeps}
use Rattle.sheet.proofs.Paths.{Up, carried, reaches-decides, up-decides}
use Rattle.sheet.proofs.Rules.{Sound, sound-of, linked-put}
use Rattle.sheet.specs.Calls.{verdict, changed, with_before}
use Rattle.sheet.specs.Linking.{Linking, Cutting}
use Rattle.sheet.specs.Links.{Path, one, linked, up}
use Rattle.sheet.specs.Sheets.{table}
use Rattle.sheet.specs.declared.call.Call.TheVariants.{Link as link, Cut as cut}
use Rattle.sheet.specs.declared.sheet.Sheet.{Sheet}
use Rattle.sheet.specs.Tables.{Table, blank, task_of}

module _ (t : Table) (r : Sound t) (a b : ℕ) where
  link-adds : verdict t (link a b) ≡ 0 → (x y : ℕ) → linked (changed t (link a b)) x y ≡ (linked t x y || (eqb x a && eqb y b))
  unfolding linked
  link-adds v x y = grind (arith, common_steps, linked-put, has-adding)

  cut-drops : verdict t (cut a b) ≡ 0 → (x y : ℕ) → linked (changed t (cut a b)) x y ≡ (linked t x y && not (eqb x a && eqb y b))
  unfolding linked
  cut-drops v x y = grind (arith, common_steps, linked-put, has-removing)

  -- a path from a to b that is left keeps every up-set
  cut-stays : verdict t (cut a b) ≡ 0 → let t' : Table = changed t (cut a b) in Path t' a b → (u x : ℕ) → up t' u x ≡ up t u x
  cut-stays v p u x =
      same_from_decides _ _ (Decides-like _ (rise t' t old) (rise t t' new) (up-decides t' (keeps t (cut a b) r v).known u x)) (up-decides t r.known u x)
    where
      t' : Table
      t' = changed t (cut a b)

      rise : (s s' : Table) → ((v w : ℕ) → linked s v w ≡ true → Path s' v w) → Up s u x → Up s' u x
      rise s s' each h = ⊎_elim inl (λ q. inr (carried s s' each q)) h

      old : (y z : ℕ) → linked t' y z ≡ true → Path t y z
      old y z l = one (grind (arith, nat_tests, cut-drops v y z))

      new : (y z : ℕ) → linked t y z ≡ true → Path t' y z
      new y z l =
          ⊎_elim
          (λ h. let q = and_parts (eqb y a) (eqb z b) h in rw (eqb-true y a q.0, eqb-true z b q.1) p)
          (λ h. one (grind (arith, nat_tests, cut-drops v y z)))
          (cases_Bool (eqb y a && eqb z b))

  -- a link that is there is made again to no effect
  link-again : linked t a b ≡ true → changed t (link a b) ≡ t
  unfolding linked
  link-again l = ap (λ s. set t b (with_before s (task_of t b))) (cond-true _ _ _ l) ∙ set-get_or t b blank

pub linking : (s : Sheet) (a b : ℕ) (t' : Table) → Accepted s (link a b) t' → Linking (table s) t' a b 0
linking s a b t' done =
    let t = table s in
    let r = sound-of s in
    record {
      test = reaches-decides t r.known;
      circle = grind (arith, common_steps, up-decides t r.known b a);
      adds = λ _ x y. cc (link-adds t r a b done.1 x y);
      again = λ l. cc (link-again t r a b l);
    }

pub cutting : (s : Sheet) (a b : ℕ) (t' : Table) → Accepted s (cut a b) t' → Cutting (table s) t' a b
cutting s a b t' done =
    let t = table s in
    let r = sound-of s in
    rw done.0 (record { only = cut-drops t r a b done.1; stays = cut-stays t r a b done.1 })

-- what finds the refusal that a call answers, where it hands on that of another call
pub ruleset answering = (fitting, number-pos)

-- the same of a call that looks for a path
pub ruleset looking = (fitting, number-pos, reaches-decides, up-decides)
