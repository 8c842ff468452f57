-- What each call on a sheet answers, and what it makes of the table: a relation, in the words of tasks, durations, kinds, links and
-- paths. It says how a call, its answer and the two tables stand to each other, and computes neither the answer nor the table.
-- Assumes nothing.
--     Names c k                 the call c names task k
--     Applies t c n             the refusal with the number n applies to the call c on the table t
--     Answers t c n             the call answers n: the smallest number of a refusal that applies, 0 where none does
--     HasDurations t k min max  task k has these durations in t; `HasKind t k kind`: it has this kind
--     SameDurations t t' k      task k has in t' the durations that it has in t; `SameKind t t' k`: the kind
--     SameLink t t' a b         a link from a to b is in t' where it is in t, and not else
--     DurationsStay t t'        each task of t keeps its durations in t'; `KindsStay t t'`: its kind
--     LinksStay t t'            no link is new or gone; `LinksStayBut t t' a b`: none but that from a to b
--     TaskAdded, DurationsSet, LinkPut, LinkTaken, KindSet    what accepted calls make of the table t: t'
--     Makes t c t'              which of these it is for the call c
--     Does t c n t'             the call c on the table t answers n and leaves t'
use Rattle.std.specs.Prelude.{◌≡◌, ◌≢◌, true, false, ◌⊎◌, ℕ, ◌+◌, ◌<◌, ◌≤◌, length}
use Rattle.common.specs.Refusals.{number}
use Rattle.common.specs.declared.refusal.Refusal.TheVariants.{UnknownTask, SheetFull, Durations, Circle, NoLink, DeadlineRange, OtherKind}
use Rattle.sheet.specs.Links.{Path, linked}
use Rattle.sheet.specs.Rules.{MayBeDue, MayLast}
use Rattle.sheet.specs.Tables.{Table, task_of}
use Rattle.sheet.specs.declared.call.Call.{Call}
use Rattle.sheet.specs.declared.call.Call.TheVariants.{Task as task, Time as time, Link as link, Cut as cut, Hard as hard, Soft as soft, Plain as plain}
use Rattle.sheet.specs.declared.table.Kind.{Kind}
use Rattle.sheet.specs.declared.table.Kind.TheVariants.{Plain, Soft, Hard}

-- ---- the answer

abbrev pub Names : Call → ℕ → Type 0
Names (task min max) k = ⊥
Names (time j min max) k = k ≡ j
Names (link a b) k = (k ≡ a) ⊎ (k ≡ b)
Names (cut a b) k = (k ≡ a) ⊎ (k ≡ b)
Names (hard j d) k = k ≡ j
Names (soft j) k = k ≡ j
Names (plain j) k = k ≡ j

pub data Applies (t : Table) : Call → ℕ → Type 0 where
  -- a task that it names is not there
  unknown : {c : Call} (k : ℕ) → Names c k → length t ≤ k → Applies t c (number UnknownTask)
  -- sixteen tasks are there
  full : {min max : ℕ} → 16 ≤ length t → Applies t (task min max) (number SheetFull)
  -- the durations break their rule
  task_durations : {min max : ℕ} → (MayLast min max → ⊥) → Applies t (task min max) (number Durations)
  time_durations : {k min max : ℕ} → (MayLast min max → ⊥) → Applies t (time k min max) (number Durations)
  -- the second task is the first, or a path leads from it to the first: the link would close a circle
  circle : {a b : ℕ} → (b ≡ a) ⊎ Path t b a → Applies t (link a b) (number Circle)
  -- there is no such direct link
  no_link : {a b : ℕ} → linked t a b ≡ false → Applies t (cut a b) (number NoLink)
  -- the deadline breaks its rule
  deadline : {k d : ℕ} → (MayBeDue d → ⊥) → Applies t (hard k d) (number DeadlineRange)
  -- the task is soft and was to be hard, or hard and was to be soft
  was_soft : {k d : ℕ} → (task_of t k).kind ≡ Soft → Applies t (hard k d) (number OtherKind)
  was_hard : {k d : ℕ} → (task_of t k).kind ≡ Hard d → Applies t (soft k) (number OtherKind)

pub record Answers (t : Table) (c : Call) (n : ℕ) : Type 0 where
  -- it is accepted with 0, or a refusal with this number applies
  pub applies : (n ≡ 0) ⊎ Applies t c n
  -- none that applies has a smaller number, and where one applies it is not 0
  pub smallest : (j : ℕ) → Applies t c j → (0 < n) × (n ≤ j)

-- ---- what is made of the table

abbrev pub HasDurations : Table → (k min max : ℕ) → Type 0
HasDurations t k min max = ((task_of t k).min ≡ min) × ((task_of t k).max ≡ max)

abbrev pub HasKind : Table → ℕ → Kind → Type 0
HasKind t k kind = (task_of t k).kind ≡ kind

abbrev pub SameDurations : (t t' : Table) → ℕ → Type 0
SameDurations t t' k = HasDurations t' k (task_of t k).min (task_of t k).max

abbrev pub SameKind : (t t' : Table) → ℕ → Type 0
SameKind t t' k = HasKind t' k (task_of t k).kind

abbrev pub DurationsStay : (t t' : Table) → Type 0
DurationsStay t t' = (k : ℕ) → k < length t → SameDurations t t' k

abbrev pub KindsStay : (t t' : Table) → Type 0
KindsStay t t' = (k : ℕ) → k < length t → SameKind t t' k

abbrev pub SameLink : (t t' : Table) → (a b : ℕ) → Type 0
SameLink t t' a b = linked t' a b ≡ linked t a b

abbrev pub LinksStay : (t t' : Table) → Type 0
LinksStay t t' = (a b : ℕ) → SameLink t t' a b

abbrev pub LinksStayBut : (t t' : Table) → (a b : ℕ) → Type 0
LinksStayBut t t' a b = (u v : ℕ) → (u ≢ a) ⊎ (v ≢ b) → SameLink t t' u v

-- a task is added: it is the last, plain, has these durations, and no link leads to it or from it
pub record TaskAdded (t t' : Table) (min max : ℕ) : Type 0 where
  pub count : length t' ≡ length t + 1
  pub lasts : HasDurations t' (length t) min max
  pub plain : HasKind t' (length t) Plain
  pub durations : DurationsStay t t'
  pub kinds : KindsStay t t'
  pub links : LinksStay t t'

-- task k has these durations
pub record DurationsSet (t t' : Table) (k min max : ℕ) : Type 0 where
  pub count : length t' ≡ length t
  pub lasts : HasDurations t' k min max
  pub others : (u : ℕ) → u < length t → u ≢ k → SameDurations t t' u
  pub kinds : KindsStay t t'
  pub links : LinksStay t t'

-- there is a link from a to b
pub record LinkPut (t t' : Table) (a b : ℕ) : Type 0 where
  pub count : length t' ≡ length t
  pub there : linked t' a b ≡ true
  pub others : LinksStayBut t t' a b
  pub durations : DurationsStay t t'
  pub kinds : KindsStay t t'

-- there is no link from a to b
pub record LinkTaken (t t' : Table) (a b : ℕ) : Type 0 where
  pub count : length t' ≡ length t
  pub gone : linked t' a b ≡ false
  pub others : LinksStayBut t t' a b
  pub durations : DurationsStay t t'
  pub kinds : KindsStay t t'

-- task k is of this kind
pub record KindSet (t t' : Table) (k : ℕ) (kind : Kind) : Type 0 where
  pub count : length t' ≡ length t
  pub is : HasKind t' k kind
  pub others : (u : ℕ) → u < length t → u ≢ k → SameKind t t' u
  pub durations : DurationsStay t t'
  pub links : LinksStay t t'

abbrev pub Makes : Table → Call → Table → Type 0
Makes t (task min max) t' = TaskAdded t t' min max
Makes t (time k min max) t' = DurationsSet t t' k min max
Makes t (link a b) t' = LinkPut t t' a b
Makes t (cut a b) t' = LinkTaken t t' a b
Makes t (hard k d) t' = KindSet t t' k (Hard d)
Makes t (soft k) t' = KindSet t t' k Soft
Makes t (plain k) t' = KindSet t t' k Plain

pub record Does (t : Table) (c : Call) (n : ℕ) (t' : Table) : Type 0 where
  pub answers : Answers t c n
  -- an accepted call makes what its kind of call makes
  pub makes : n ≡ 0 → Makes t c t'
  -- a refused one leaves the table
  pub stays : n ≢ 0 → t' ≡ t
