use Rattle.std.proofs.Common.{◌≡◌, length}
use Rattle.std.specs.List.{slice_get}
use Rattle.file.specs.Names.{task_notes}
use Rattle.file.proofs.naming.note_of_task.Given as goal

-- the note is the one at this place of those that are left
abbrev pub invariant-loop-file : goal.invariant-loop-file
invariant-loop-file l = slice_get (task_notes l.file) l.left ≡ slice_get (task_notes l.fn.file) l.t

abbrev pub decreases-loop-file : goal.decreases-loop-file
decreases-loop-file l = length l.file
