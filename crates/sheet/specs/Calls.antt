-- What each call on a sheet answers, and the table that it leaves. Assumes nothing.
--     rows       t c    the refusals that the call may get, by number, each with the test whether it fits
--     verdict    t c    0 where the call is accepted, else the number of its refusal
--     changed    t c    the table after the call, where it is accepted
--     after      t c    the table after the call: as it was, where the call is refused
--     Asked t k P r     what every question about one task promises
--     Called t t' c n   the call c on the table t answers n and leaves t'
--     new_number t c    the number of the task that an accepted call adds; absent for a call that adds none
use Rattle.std.specs.Prelude.{Bool, ◌≡◌, not, ◌&&◌, ◌||◌, [], ◌∷◌, ◌++◌, ℕ, ◌≤◌, ◌<◌, nat_le, length, set, Option, Some, None, Result, Ok, Err}
use Rattle.common.specs.Refusals.{Answered, Rows, first_fit, kept_unless, number}
use Rattle.common.specs.declared.refusal.Refusal.{Refusal}
use Rattle.common.specs.Sets.{adding, removing}
use Rattle.common.specs.declared.refusal.Refusal.TheVariants.{UnknownTask, SheetFull, Durations, Circle, NoLink, DeadlineRange, OtherKind}
use Rattle.sheet.specs.Links.{linked, up}
use Rattle.sheet.specs.Tables.{Table, task_of, is_soft, is_hard}
use Rattle.sheet.specs.declared.call.Call.{Call}
use Rattle.sheet.specs.declared.call.Call.TheVariants.{Task as task, Time as time, Link as link, Cut as cut, Hard as hard, Soft as soft, Plain as plain}
use Rattle.sheet.specs.declared.table.Kind.{Kind}
use Rattle.sheet.specs.declared.table.Kind.TheVariants.{Plain, Soft, Hard}
use Rattle.sheet.specs.declared.table.Task.{Task}

-- no task has the number
abbrev pub unknown : Table → ℕ → Bool
unknown t k = nat_le (length t) k

-- the answer to a question about task k: P holds of it; or a refusal with 1, exactly where no task has the number
abbrev pub Asked : {A : Type 0} → Table → ℕ → (A → Type 0) → Result A Refusal → Type 0
Asked t k P (Ok x) = (k < length t) × P x
Asked t k P (Err e) = (length t ≤ k) × (number e ≡ number UnknownTask)

abbrev pub lasts : ℕ → ℕ → Bool
lasts min max = nat_le 1 min && (nat_le min max && nat_le max 65535)

abbrev pub in_range : ℕ → Bool
in_range d = nat_le 1 d && nat_le d 1048575

abbrev pub rows : Table → Call → Rows
rows t (task min max) = (nat_le 16 (length t), number SheetFull) ∷ (not (lasts min max), number Durations) ∷ []
rows t (time k min max) = (unknown t k, number UnknownTask) ∷ (not (lasts min max), number Durations) ∷ []
rows t (link a b) = (unknown t a || unknown t b, number UnknownTask) ∷ (up t b a, number Circle) ∷ []
rows t (cut a b) = (unknown t a || unknown t b, number UnknownTask) ∷ (not (linked t a b), number NoLink) ∷ []
rows t (hard k d) =
    (unknown t k, number UnknownTask) ∷ (not (in_range d), number DeadlineRange) ∷ (is_soft (task_of t k).kind, number OtherKind) ∷ []
rows t (soft k) = (unknown t k, number UnknownTask) ∷ (is_hard (task_of t k).kind, number OtherKind) ∷ []
rows t (plain k) = (unknown t k, number UnknownTask) ∷ []

abbrev pub verdict : Table → Call → ℕ
verdict t c = first_fit (rows t c)

abbrev pub with_durations : ℕ → ℕ → Task → Task
with_durations min max x = record x { min = min; max = max }

abbrev pub with_kind : Kind → Task → Task
with_kind kind x = record x { kind = kind }

abbrev pub with_before : ℕ → Task → Task
with_before s x = record x { before = record { 0 = s } }

abbrev pub new_task : ℕ → ℕ → Task
new_task min max = record { min = min; max = max; kind = Plain; before = record { 0 = 0 } }

abbrev pub changed : Table → Call → Table
changed t (task min max) = t ++ new_task min max ∷ []
changed t (time k min max) = set t k (with_durations min max (task_of t k))
changed t (link a b) = set t b (with_before (adding (task_of t b).before.0 a) (task_of t b))
changed t (cut a b) = set t b (with_before (removing (task_of t b).before.0 a) (task_of t b))
changed t (hard k d) = set t k (with_kind (Hard d) (task_of t k))
changed t (soft k) = set t k (with_kind Soft (task_of t k))
changed t (plain k) = set t k (with_kind Plain (task_of t k))

abbrev pub after : Table → Call → Table
after t c = kept_unless (verdict t c) (changed t c) t

abbrev pub Called : (t t' : Table) (c : Call) (n : ℕ) → Type 0
Called t t' c n = Answered (rows t c) (changed t c) t t' n

abbrev pub new_number : Table → Call → Option ℕ
new_number t (task min max) = Some (length t)
new_number t c = None
