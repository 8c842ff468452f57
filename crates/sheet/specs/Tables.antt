-- A table: the tasks in a list, with no rule between them. Assumes nothing.
--     blank            what is read past the end
--     task_of t k      task k
--     expected_of x    how long the task is expected to take: the midpoint of its durations, rounded down
--     maximum_of x     how long it takes at most
--     load_of f t p    the sum of f over the tasks that pass p
use Rattle.std.specs.Prelude.{Bool, true, false, List, ℕ, ◌+◌, ◌/◌, length, slice_index_or}
use Rattle.common.specs.Sets.{sum_where}
use Rattle.sheet.specs.declared.table.Kind.{Kind}
use Rattle.sheet.specs.declared.table.Kind.TheVariants.{Plain, Soft, Hard}
use Rattle.sheet.specs.declared.table.Task.{Task}

abbrev pub Table : Type 0
Table = List Task

abbrev pub blank : Task
blank = record { min = 0; max = 0; kind = Plain; before = record { 0 = 0 } }

abbrev pub task_of : Table → ℕ → Task
task_of t k = slice_index_or t k blank

unfoldable pub expected_of : Task → ℕ
expected_of x = (x.min + x.max) / 2

unfoldable pub maximum_of : Task → ℕ
maximum_of x = x.max

abbrev pub load_of : (Task → ℕ) → Table → (ℕ → Bool) → ℕ
load_of f t p = sum_where p (λ k. f (task_of t k)) (length t)

abbrev pub is_soft : Kind → Bool
is_soft Plain = false
is_soft Soft = true
is_soft (Hard d) = false

abbrev pub is_hard : Kind → Bool
is_hard Plain = false
is_hard Soft = false
is_hard (Hard d) = true
