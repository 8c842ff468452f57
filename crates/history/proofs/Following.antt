-- The table that follows from a history is the one that results, and every table that results keeps the rules. Assumes nothing.
use Rattle.std.proofs.Common.{◌≡◌, refl, sym, ap, subst, ◌∙◌, ◌↔◌, Bool, true, false, if◌then◌else◌, List, [], ◌∷◌, ℕ, suc, Result, Ok, Err, length, map, nat_lt}
use Rattle.std.specs.Prelude.{MatchResult, fold}
use Rattle.common.specs.declared.refusal.Refusal.{Refusal}
use Rattle.file.proofs.Loads.{run-cons, run-none}
use Rattle.file.specs.Faults.{Figures, figures}
use Rattle.file.specs.declared.frame.Frame.{Frame}
use Rattle.file.specs.declared.frame.Frame.TheVariants.{Task as task, Link as link, Hard as hard, Ramp as ramp, Soft as soft, Step as step, Weight as weight}
use Rattle.file.specs.Lines.{pieces}
use Rattle.file.specs.Loads.{Made, and_then, call_of, called, loaded, longest, nothing_made, obeyed, run}
use Rattle.file.specs.Readings.{Reading, reading}
use Rattle.file.specs.declared.fault.Fault.TheVariants.{TooLong}
use Rattle.history.specs.Following.{Follows, Turns}
use Rattle.history.specs.Following.Follows.{none, more}
use Rattle.history.specs.Histories.{after, resulting, tasks_or}
use Rattle.history.specs.declared.Call.{Call}
use Rattle.history.specs.declared.Call.TheVariants.{Sheet, Load, Plan}
use Rattle.sheet.proofs.Effects.{does, sound-after as sound-called}
use Rattle.sheet.proofs.Rules.{Sound, empty_sound}
use Rattle.sheet.specs.Calls as sheet
use Rattle.sheet.specs.Tables.{Table}
use Rattle.sheet.specs.declared.call.Call.{Call as SheetCall}
use Rattle.sheet.specs.declared.call.Call.TheVariants.{Task, Link, Hard, Soft}

-- ---- every table keeps the rules

ok-if : (b : Bool) (m x : Made) (fault : Figures) → (if b then Ok m else Err fault) ≡ Ok x → m ≡ x
ok-if true m x fault is = cc
ok-if false m x fault is = absurd (cc)

sound-obeyed : (m : Made) (n : ℕ) (o : Result Reading Refusal) (x : Made) → Sound m.tasks → obeyed m n o ≡ Ok x → Sound x.tasks
sound-obeyed m n (Err cause) x r is = absurd (cc)
sound-obeyed m n (Ok o) x r is = of-frame o.frame is
  where
    on-sheet : (call : SheetCall) → record m { tasks = sheet.after m.tasks call } ≡ x → Sound x.tasks
    on-sheet call e = subst (λ (m : Made). Sound m.tasks) e (sound-called m.tasks r call)

    of-frame : (f : Frame) → called m n (call_of f) ≡ Ok x → Sound x.tasks
    of-frame (task min max) e = on-sheet (Task min max) (ok-if _ _ x _ e)
    of-frame (link a b) e = on-sheet (Link a b) (ok-if _ _ x _ e)
    of-frame (hard t d) e = on-sheet (Hard t d) (ok-if _ _ x _ e)
    of-frame (soft t) e = on-sheet (Soft t) (ok-if _ _ x _ e)
    of-frame (ramp t peak knee foot) e = subst (λ (m : Made). Sound m.tasks) (ok-if _ _ x _ e) r
    of-frame (step t until worth) e = subst (λ (m : Made). Sound m.tasks) (ok-if _ _ x _ e) r
    of-frame (weight t w) e = subst (λ (m : Made). Sound m.tasks) (ok-if _ _ x _ e) r

sound-behind : (os : List (Result Reading Refusal)) (n : ℕ) (x : Made) → ((y : Made) → Sound y.tasks → run y n os ≡ Ok x → Sound x.tasks)
    → (a : Result Made Figures) → ((y : Made) → a ≡ Ok y → Sound y.tasks) → and_then a (λ y. run y n os) ≡ Ok x → Sound x.tasks
sound-behind os n x go (Ok y) each is = go y (each y refl) is
sound-behind os n x go (Err fault) each is = absurd (cc)

sound-run : (os : List (Result Reading Refusal)) (m : Made) (n : ℕ) (x : Made) → Sound m.tasks → run m n os ≡ Ok x → Sound x.tasks
sound-run [] m n x r is = subst (λ (m : Made). Sound m.tasks) (ok-if true m x (figures TooLong) (sym (run-none m n) ∙ is)) r
sound-run (o ∷ os) m n x r is =
    sound-behind os (suc n) x (λ y. sound-run os y (suc n) x) (obeyed m n o) (λ y. sound-obeyed m n o y r) (sym (run-cons m n o os) ∙ is)

sound-loaded : (file : List ℕ) (x : Made) → loaded file ≡ Ok x → Sound x.tasks
unfolding loaded
sound-loaded file x is = behind (nat_lt longest (length file)) is
  where
    behind : (b : Bool) → (if b then Err (figures TooLong) else run nothing_made 1 (map reading (pieces file))) ≡ Ok x → Sound x.tasks
    behind true e = absurd (cc)
    behind false e = sound-run (map reading (pieces file)) nothing_made 1 x empty_sound e

sound-or : (t : Table) (o : Result Made Figures) → Sound t → ((x : Made) → o ≡ Ok x → Sound x.tasks) → Sound (tasks_or t o)
sound-or t (Ok x) r each = each x refl
sound-or t (Err fault) r each = r

sound-after : (t : Table) (call : Call) → Sound t → Sound (after t call)
sound-after t (Sheet call) r = sound-called t r call
sound-after t (Load file) r = sound-or t (loaded file.now) r (sound-loaded file.now)
sound-after t (Plan n k) r = r

-- ---- what follows

load-turns : (t t' : Table) (o : Result Made Figures) → MatchResult o (λ m. t' ≡ m.tasks) (λ fault. t' ≡ t) ↔ (t' ≡ tasks_or t o)
load-turns t t' (Ok m) = (λ e. e, λ e. e)
load-turns t t' (Err fault) = (λ e. e, λ e. e)

turns : (t : Table) → Sound t → (call : Call) (t' : Table) → Turns t call t' ↔ (t' ≡ after t call)
turns t r (Sheet call) t' = (λ d. ((does t r call d.0 t').0 d.1).1, λ e. (sheet.verdict t call, (does t r call (sheet.verdict t call) t').1 (refl, e)))
turns t r (Load file) t' = load-turns t t' (loaded file.now)
turns t r (Plan n k) t' = (λ e. e, λ e. e)

follows-one : {t t' : Table} {calls : List Call} → Sound t → Follows t calls t' → t' ≡ fold after t calls
follows-one r none = refl
follows-one r (more {t = t} {t' = t'} {call = call} {calls = calls} first rest) =
    let e : t' ≡ after t call = (turns t r call t').0 first in
    follows-one (subst Sound (sym e) (sound-after t call r)) rest ∙ ap (λ u. fold after u calls) e

follows-some : (calls : List Call) (t : Table) → Sound t → Follows t calls (fold after t calls)
follows-some [] t r = none
follows-some (call ∷ calls) t r = more ((turns t r call (after t call)).1 refl) (follows-some calls (after t call) (sound-after t call r))

pub follows : (history : List Call) (t : Table) → Follows [] history t ↔ (t ≡ resulting history)
follows history t = (follows-one empty_sound, λ e. subst (Follows [] history) (sym e) (follows-some history [] empty_sound))

pub results : (history : List Call) → Follows [] history (resulting history)
results history = follows-some history [] empty_sound
