-- Each call that is accepted keeps the rules. Assumes nothing.
use Rattle.std.proofs.Common.{◌≡◌, refl, false, ℕ, ◌<◌, arith, length, set}
use Rattle.std.proofs.lemmas.Bool.Decides.{nat_tests, not_from_Decides}
use Rattle.std.proofs.lemmas.Grind.{common_steps}
use Rattle.common.proofs.Sets.{has-adding, has-removing}
use Rattle.common.specs.Sets.{adding, removing}
use Rattle.sheet.proofs.Paths.{up-decides, still-acyclic}
use Rattle.sheet.proofs.Rules.{Sound, sound-of, linked-put, sound-put, sound-pushed, sound-unlinked}
use Rattle.sheet.specs.Calls.{verdict, changed, new_task, with_durations, with_before, with_kind}
use Rattle.sheet.specs.Links.{linked, up}
use Rattle.sheet.specs.Rules.{InRange}
use Rattle.sheet.specs.Sheets.{table}
use Rattle.sheet.specs.Tables.{Table, blank, task_of}
use Rattle.sheet.specs.declared.call.Call.{Call}
use Rattle.sheet.specs.declared.call.Call.TheVariants.{Task as task, Time as time, Link as link, Cut as cut, Hard as hard, Soft as soft, Plain as plain}
use Rattle.sheet.specs.declared.sheet.Sheet.{Sheet}
use Rattle.sheet.specs.declared.table.Kind.{Kind}
use Rattle.sheet.specs.declared.table.Kind.TheVariants.{Plain, Soft, Hard}

-- task k has another kind
marked : (t : Table) → Sound t → (k : ℕ) → k < length t → (kind : Kind) → InRange (with_kind kind (task_of t k)) → Sound (set t k (with_kind kind (task_of t k)))
marked t r k lt kind due = sound-unlinked t k (with_kind kind (task_of t k)) lt r (r.lasting k blank lt) due (λ u h. h)

pub keeps : (t : Table) (c : Call) → Sound t → verdict t c ≡ 0 → Sound (changed t c)
unfolding linked
keeps t (task min max) r v = sound-pushed t (new_task min max) refl r (grind (arith, common_steps)) (grind (arith, common_steps)) (λ d e. cc)
keeps t (time k min max) r v =
    let lt : k < length t = grind (arith, common_steps) in
    sound-unlinked t k (with_durations min max (task_of t k)) lt r (grind (arith, common_steps)) (r.due k blank lt) (λ u h. h)
keeps t (link a b) r v =
    let la : a < length t = grind (arith, common_steps) in
    let lb : b < length t = grind (arith, common_steps) in
    let off : up t b a ≡ false = grind (arith, common_steps) in
    let s = (task_of t b).before.0 in
    let x = with_before (adding s a) (task_of t b) in
    sound-put t b x lb r (r.lasting b blank lb) (r.due b blank lb)
    (λ u h. grind (arith, nat_tests, has-adding s a u, r.known u b))
    (still-acyclic t (set t b x) a b
    (λ u w l. grind (arith, nat_tests, linked-put t b x lb u w, has-adding s a u))
    r.acyclic
    (not_from_Decides _ (up-decides t r.known b a) off))
keeps t (cut a b) r v =
    let lb : b < length t = grind (arith, common_steps) in
    let s = (task_of t b).before.0 in
    sound-unlinked t b (with_before (removing s a) (task_of t b)) lb r (r.lasting b blank lb) (r.due b blank lb)
    (λ u e. grind (arith, nat_tests, has-removing s a u))
keeps t (hard k d) r v = marked t r k (grind (arith, common_steps)) (Hard d) (λ e h. let q : d ≡ e = cc in grind (arith, common_steps))
keeps t (soft k) r v = marked t r k (grind (arith, common_steps)) Soft (λ d e. cc)
keeps t (plain k) r v = marked t r k (grind (arith, common_steps)) Plain (λ d e. cc)

-- the call c on the sheet s is accepted, and leaves the table t
abbrev pub Accepted : Sheet → Call → Table → Type 0
Accepted s c t = (t ≡ changed (table s) c) × (verdict (table s) c ≡ 0)

-- the ghost field after it, as `invariant_of-self` asks for it
pub kept : (s : Sheet) (c : Call) (t : Table) → Accepted s c t → record { keeps : Sound t }
kept s c t h = let after : Sound t = rw h.0 (keeps (table s) c (sound-of s) h.1) in record { keeps = after }
