-- What is left of the deadlines where the tasks of a set have run first. Assumes nothing.
--     asks t s d h          h is a hard task outside the set s, and its deadline is at most d
--     pressing t s d u      u must have ended by d where the tasks of s have: it is in s, or in the up-set of a task that asks
--     margin_after t s k    the deadline of task k less the sum of the maxima of what must have ended by it; absent for a task of s
--                           and for one that isn't hard
--     FitsAfter t s         none of these margins is below 0
use Rattle.std.specs.Prelude.{◌≡◌, Bool, not, ◌&&◌, ◌||◌, ℕ, pos, ◌-ℤ◌, ◌≤ℤ◌, if◌then◌else◌, Option, Some, None, length, option_map}
use Rattle.common.specs.Sets.{any, has}
use Rattle.common.specs.declared.ticks.Margin.{Margin}
use Rattle.sheet.specs.Links.{up}
use Rattle.sheet.specs.Margins.{deadline_of, due_by}
use Rattle.sheet.specs.Tables.{Table, load_of, maximum_of, task_of}

abbrev pub asks : Table → (s d h : ℕ) → Bool
asks t s d h = not (has s h) && due_by d (task_of t h).kind

unfoldable pub pressing : Table → (s d u : ℕ) → Bool
pressing t s d u = has s u || any (length t) (λ h. asks t s d h && up t u h)

-- the margin at the deadline d
abbrev pub left_after : Table → (s d : ℕ) → Margin
left_after t s d = record { 0 = pos d -ℤ pos (load_of maximum_of t (pressing t s d)) }

abbrev pub margin_after : Table → (s k : ℕ) → Option Margin
margin_after t s k = if has s k then None else option_map (left_after t s) (deadline_of (task_of t k).kind)

abbrev pub FitsAfter : Table → ℕ → Type 0
FitsAfter t s = (k : ℕ) (m : Margin) → margin_after t s k ≡ Some m → pos 0 ≤ℤ m.0
