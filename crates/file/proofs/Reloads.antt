-- What is saved is loaded as what was saved. Assumes nothing.
use Rattle.std.proofs.Common.{◌≡◌, ap, subst, ◌∙◌, ◌==◌, if◌then◌else◌, List, [], ◌∷◌, ◌++◌, ℕ, suc, ◌≤◌, MatchResult, Option, Some, None, Result, Ok, Err, ap₂, arith, drop, length, map, take}
use Rattle.std.proofs.Math.Seq.{take-append_seam}
use Rattle.std.proofs.lemmas.List.{append_assoc}
use Rattle.std.specs.Result.{result_ok}
use Rattle.book.proofs.Equality.{same_contents}
use Rattle.common.specs.declared.refusal.Refusal.{Refusal}
use Rattle.book.specs.Standard.{Contents, contents, nothing}
use Rattle.book.specs.declared.standard.StandardBook.{StandardBook}
use Rattle.file.proofs.Again.{saved_read}
use Rattle.file.proofs.CurvesGo.{curves_go}
use Rattle.file.proofs.Going.{Goes, goes-append}
use Rattle.file.proofs.Lengths.{saved-short}
use Rattle.file.proofs.Loads.{run-cons, run-none}
use Rattle.file.proofs.Stopping.{loaded-short}
use Rattle.file.proofs.TasksGo.{tasks_go}
use Rattle.file.specs.Again.{LoadsOnly, SavedLoads}
use Rattle.file.specs.Faults.{figures, told}
use Rattle.file.specs.declared.fault.Fault.{Fault}
use Rattle.file.specs.Frames.{Frame}
use Rattle.file.specs.Loads.{Made, after, and_then, call_of, layer, loaded, made, nothing_made, run, verdict}
use Rattle.file.specs.Saved.{each, frames, hard_frame, links_from, ramp_frame, saved, soft_frame, step_frames, task_frame, weight_frame, Written}
use Rattle.file.specs.Stopping.{OneLoad}
use Rattle.sheet.proofs.Equal.{same_tables}
use Rattle.sheet.specs.Sheets.{table}
use Rattle.sheet.specs.Tables.{Table}
use Rattle.sheet.specs.declared.sheet.Sheet.{Sheet}

-- ---- frames that go are run

no_refusal : (v : ℕ) {A : Type 0} (x y : A) → v ≡ 0 → (if v == 0 then x else y) ≡ x
no_refusal v x y is = ap (λ v. if v == 0 then x else y) is

pub run-goes : (m m' : Made) (n : ℕ) (fs : List Frame) → Goes m fs m' → run m n (map (λ f. Ok (record { frame = f; note = None })) fs) ≡ Ok m'
run-goes m m' n [] go = run-none m n ∙ ap Ok go
run-goes m m' n (f ∷ fs) go =
    let call = call_of f in
    let rest = map (λ (f : Frame). Ok (record { frame = f; note = None })) fs in
    run-cons m n (Ok (record { frame = f; note = None })) rest
    ∙ ap (λ a. and_then a (λ made. run made (suc n) rest)) (no_refusal (verdict m call) (Ok (after m call)) (Err (told (layer call) (verdict m call) n)) go.0)
    ∙ run-goes (after m call) m' (suc n) fs go.1

-- ---- all the frames go

-- the tasks first, with the links and the deadlines; those that are soft behind the ramps
abbrev pub TasksGo : Table → Type 0
TasksGo t =
    (T : Table)
    × ((b : Contents) → Goes (record { tasks = []; worths = b }) (each (length t) (task_frame t) ++ (each (length t) (links_from t) ++ each (length t) (hard_frame t))) (record { tasks = T; worths = b }))
    × ((b : Contents) → Goes (record { tasks = T; worths = b }) (each (length t) (soft_frame t)) (record { tasks = t; worths = b }))

-- the ramps first, and then the steps and the weights
abbrev pub CurvesGo : Contents → Type 0
CurvesGo b =
    (c : Contents)
    × ((t : Table) → Goes (record { tasks = t; worths = nothing }) (each 16 (ramp_frame b)) (record { tasks = t; worths = c }))
    × ((t : Table) → Goes (record { tasks = t; worths = c }) (each 16 (step_frames b) ++ each 16 (weight_frame b)) (record { tasks = t; worths = b }))

grouped : (a b c d e f g : List Frame) → ((((a ++ (b ++ c)) ++ d) ++ e) ++ (f ++ g)) ≡ ((((((a ++ b) ++ c) ++ d) ++ e) ++ f) ++ g)
grouped a b c d e f g = simp append_assoc

-- behind one another, over any tables and contents
all-go : (m p q r s : Made) (a b c d e f g : List Frame) → Goes m (a ++ (b ++ c)) p → Goes p d q → Goes q e r → Goes r (f ++ g) s → Goes m ((((((a ++ b) ++ c) ++ d) ++ e) ++ f) ++ g) s
all-go m p q r s a b c d e f g i j k l =
    subst (λ fs. Goes m fs s) (grouped a b c d e f g)
    (goes-append m r s (((a ++ (b ++ c)) ++ d) ++ e) (f ++ g) (goes-append m q r ((a ++ (b ++ c)) ++ d) e (goes-append m p q (a ++ (b ++ c)) d i j) k) l)

frames-go : (t : Table) (b : Contents) → TasksGo t → CurvesGo b → Goes nothing_made (frames t b) (record { tasks = t; worths = b })
frames-go t b (T, first, soft) (c, ramps, rest) =
    let n = length t in
    all-go nothing_made (record { tasks = T; worths = nothing }) (record { tasks = T; worths = c }) (record { tasks = t; worths = c }) (record { tasks = t; worths = b })
    (each n (task_frame t)) (each n (links_from t)) (each n (hard_frame t)) (each 16 (ramp_frame b)) (each n (soft_frame t)) (each 16 (step_frames b)) (each 16 (weight_frame b))
    (first nothing) (ramps T) (soft c) (rest t)

saved_loads_from : (s : Sheet) (x : StandardBook) → TasksGo (table s) → CurvesGo (contents x) → SavedLoads s x
saved_loads_from s x tasks curves =
    loaded-short (saved (table s) (contents x)) (omega (arith, saved-short s x))
    ∙ ap (run nothing_made 1) (saved_read s x)
    ∙ run-goes nothing_made (made s x) 1 (frames (table s) (contents x)) (frames-go (table s) (contents x) tasks curves)

pub saved_loads : (s : Sheet) (x : StandardBook) → SavedLoads s x
saved_loads s x = saved_loads_from s x (tasks_go s) (curves_go x)

-- ---- saved and loaded again, by what `save` and `load` promise

ok-some : {T E : Type 0} (r : Result T E) (x : T) → Some x ≡ result_ok r → r ≡ Ok x
ok-some (Ok y) x is = cc
ok-some (Err e) x is = absurd (grind (arith, is))

-- what is saved stands at the front
pub text-front : (text out out' : List ℕ) (r : Result ℕ Refusal) (len : ℕ) → Written text out out' r → Some len ≡ result_ok r → take len out' ≡ text
text-front text out out' (Ok n) len w is =
    let same : len ≡ length text = grind (arith, is, w.0) in
    ap₂ take same w.2 ∙ take-append_seam text (drop n out)
text-front text out out' (Err e) len w is = absurd (grind (arith, is))

-- where there is room it is not refused
pub saved-some : (text out out' : List ℕ) (r : Result ℕ Refusal) → length text ≤ length out → Written text out out' r → None ≡ result_ok r → ⊥
saved-some text out out' (Ok n) room w is = grind (arith, is)
saved-some text out out' (Err e) room w is = omega (arith, room, w.1)

-- ---- a load has one answer

-- what one file is loaded as
pub one_load : OneLoad
one_load file s s' b b' is also =
    let one : made s b ≡ made s' b' = cc in
    (same_tables s s' (ap (λ (m : Made). m.tasks) one), same_contents b b' (ap (λ (m : Made). m.worths) one))

pub loads_only : (s : Sheet) (x : StandardBook) → LoadsOnly s x
loads_only s x s' x' is = one_load (saved (table s) (contents x)) s' s x' x is (saved_loads s x)

pub same-made : (s s' : Sheet) (x x' : StandardBook) → made s x ≡ made s' x' → ◌≡◌ {A = Option (Sheet × StandardBook)} (Some (s, x)) (Some (s', x'))
same-made s s' x x' e = ap₂ (λ a b. Some (a, b)) (same_tables s s' (ap (λ (m : Made). m.tasks) e)) (same_contents x x' (ap (λ (m : Made). m.worths) e))

-- what a file of this sheet and this book is loaded as
pub loads-same : (file : List ℕ) (s : Sheet) (x : StandardBook) → loaded file ≡ Ok (made s x) → (r : Result (Sheet × StandardBook) Fault)
    → MatchResult r (λ y. loaded file ≡ Ok (made y.0 y.1)) (λ fault. loaded file ≡ Err (figures fault)) → result_ok r ≡ Some (s, x)
loads-same file s x loads (Ok y) says = let one : made y.0 y.1 ≡ made s x = cc in same-made y.0 s y.1 x one
loads-same file s x loads (Err fault) says = absurd (grind (arith, loads, says))
