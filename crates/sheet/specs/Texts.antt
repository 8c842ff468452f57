-- What calls and kinds print. Assumes nothing.
use Rattle.std.specs.Prelude.{List, ℕ, ◌++◌, codes}
use Rattle.common.specs.Texts.{spaced}
use Rattle.sheet.specs.declared.call.Call.{Call}
use Rattle.sheet.specs.declared.call.Call.TheVariants.{Task as task, Time as time, Link as link, Cut as cut, Hard as hard, Soft as soft, Plain as plain}
use Rattle.sheet.specs.declared.table.Kind.{Kind}
use Rattle.sheet.specs.declared.table.Kind.TheVariants.{Plain, Soft, Hard}

abbrev pub kind_text : Kind → List ℕ
kind_text Plain = codes "plain"
kind_text Soft = codes "soft"
kind_text (Hard d) = codes "hard"

abbrev pub call_text : Call → List ℕ
call_text (task min max) = codes "task" ++ spaced min ++ spaced max
call_text (time k min max) = codes "time" ++ spaced k ++ spaced min ++ spaced max
call_text (link a b) = codes "link" ++ spaced a ++ spaced b
call_text (cut a b) = codes "cut" ++ spaced a ++ spaced b
call_text (hard k deadline) = codes "hard" ++ spaced k ++ spaced deadline
call_text (soft k) = codes "soft" ++ spaced k
call_text (plain k) = codes "plain" ++ spaced k
