-- Margins: what is left of a deadline once all that must have ended by it has taken its maximum. Assumes nothing.
--     deadline_of k    the deadline of a hard kind
--     due_by d kind    the kind is hard, with a deadline of at most d
--     needed t d u     u must have ended by d: it is in the up-set of a hard task whose deadline is at most d
--     demand t d       the sum of the maxima of the tasks that must have ended by d
--     margin_of t k    the deadline of task k less the demand at it; absent for a task that isn't hard
--     Fits t           no margin is below 0
--     Tightest t k     task k has the least margin, and no lower-numbered one has as little
use Rattle.std.specs.Prelude.{◌≡◌, Bool, false, ◌&&◌, ℕ, ◌<◌, nat_le, pos, ◌-ℤ◌, ◌≤ℤ◌, ◌<ℤ◌, Option, Some, None, length, option_map}
use Rattle.std.specs.Option.{option_map_or}
use Rattle.common.specs.Sets.{any}
use Rattle.common.specs.declared.ticks.Margin.{Margin}
use Rattle.sheet.specs.Links.{up}
use Rattle.sheet.specs.Tables.{Table, load_of, maximum_of, task_of}
use Rattle.sheet.specs.declared.table.Kind.{Kind}
use Rattle.sheet.specs.declared.table.Kind.TheVariants.{Plain, Soft, Hard}

abbrev pub deadline_of : Kind → Option ℕ
deadline_of Plain = None
deadline_of Soft = None
deadline_of (Hard d) = Some d

abbrev pub due_by : ℕ → Kind → Bool
due_by d kind = option_map_or (λ last. nat_le last d) (deadline_of kind) false

unfoldable pub needed : Table → ℕ → ℕ → Bool
needed t d u = any (length t) (λ h. due_by d (task_of t h).kind && up t u h)

unfoldable pub demand : Table → ℕ → ℕ
demand t d = load_of maximum_of t (needed t d)

-- the margin at the deadline d
abbrev pub left_at : Table → ℕ → Margin
left_at t d = record { 0 = pos d -ℤ pos (demand t d) }

abbrev pub margin_for : Table → Kind → Option Margin
margin_for t kind = option_map (left_at t) (deadline_of kind)

abbrev pub margin_of : Table → ℕ → Option Margin
margin_of t k = margin_for t (task_of t k).kind

abbrev pub Fits : Table → Type 0
Fits t = (k : ℕ) (m : Margin) → margin_of t k ≡ Some m → pos 0 ≤ℤ m.0

pub record Tightest (t : Table) (k : ℕ) : Type 0 where
  pub margin : Margin
  pub has_it : margin_of t k ≡ Some margin
  pub least : (u : ℕ) (m : Margin) → margin_of t u ≡ Some m → margin.0 ≤ℤ m.0
  pub lowest : (u : ℕ) (m : Margin) → u < k → margin_of t u ≡ Some m → margin.0 <ℤ m.0
