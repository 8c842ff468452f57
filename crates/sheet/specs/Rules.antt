-- The rules that every sheet keeps, which `Sheet` has in its type, and when two sheets are alike. Assumes nothing.
--     MayLast min max    the rule of durations
--     MayBeDue d         the rule of deadlines
--     Lasts x            the durations of the task x keep their rule
--     InRange x          so does its deadline, where it is hard
--     Known t            links lead from task to task
--     Acyclic t          no path closes a circle
--     Keeps t            the table keeps all the rules
--     Alike s t          the two tables hold the same
use Rattle.std.specs.Prelude.{◌≡◌, true, All, ℕ, ◌≤◌, ◌<◌, length}
use Rattle.sheet.specs.Links.{Path, linked}
use Rattle.sheet.specs.Tables.{Table, task_of}
use Rattle.sheet.specs.declared.table.Kind.TheVariants.{Hard}
use Rattle.sheet.specs.declared.table.Task.{Task}

abbrev pub MayLast : (min max : ℕ) → Type 0
MayLast min max = (1 ≤ min) × (min ≤ max) × (max ≤ 65535)

abbrev pub MayBeDue : ℕ → Type 0
MayBeDue d = (1 ≤ d) × (d ≤ 1048575)

abbrev pub Lasts : Task → Type 0
Lasts x = MayLast x.min x.max

abbrev pub InRange : Task → Type 0
InRange x = (d : ℕ) → x.kind ≡ Hard d → MayBeDue d

-- a link leads from a task to a task
abbrev pub Known : Table → Type 0
Known t = (a b : ℕ) → linked t a b ≡ true → (a < length t) × (b < length t)

-- no path leads from a task to itself
abbrev pub Acyclic : Table → Type 0
Acyclic t = (k : ℕ) → Path t k k → ⊥

-- all the rules
pub record Keeps (t : Table) : Type 0 where
  -- at most sixteen tasks
  pub few : length t ≤ 16
  -- of each task, the durations and the deadline
  pub lasting : All Lasts t
  pub due : All InRange t
  -- links, and the paths that they make
  pub known : Known t
  pub acyclic : Acyclic t

-- two tables hold the same count of tasks, with the same durations, kinds and links
pub record Alike (s t : Table) : Type 0 where
  pub count : length s ≡ length t
  pub least : (k : ℕ) → k < length s → (task_of s k).min ≡ (task_of t k).min
  pub most : (k : ℕ) → k < length s → (task_of s k).max ≡ (task_of t k).max
  pub kinds : (k : ℕ) → k < length s → (task_of s k).kind ≡ (task_of t k).kind
  pub links : (a b : ℕ) → a < length s → b < length s → linked s a b ≡ linked t a b
