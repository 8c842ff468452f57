-- What calls on a book print. Assumes nothing.
use Rattle.std.specs.Prelude.{List, ℕ, ◌++◌, codes}
use Rattle.book.specs.declared.call.Call.{Call}
use Rattle.book.specs.declared.call.Call.TheVariants.{Ramp as ramp, Step as step, DropSteps as drop_steps, Weight as weight}
use Rattle.common.specs.Texts.{spaced}

abbrev pub call_text : Call → List ℕ
call_text (ramp k peak knee foot) = codes "ramp" ++ spaced k ++ spaced peak ++ spaced knee ++ spaced foot
call_text (step k until worth) = codes "step" ++ spaced k ++ spaced until ++ spaced worth
call_text (drop_steps k) = codes "drop_steps" ++ spaced k
call_text (weight k w) = codes "weight" ++ spaced k ++ spaced w
