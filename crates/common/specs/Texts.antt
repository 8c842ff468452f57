-- What refusals print, and the numbers of calls. Assumes nothing.
use Rattle.std.specs.Prelude.{List, ℕ, ◌++◌, codes, decimal}
use Rattle.common.specs.declared.refusal.Refusal.{Refusal}
use Rattle.common.specs.declared.refusal.Refusal.TheVariants.{UnknownTask, SheetFull, Durations, Circle, NoLink, DeadlineRange, OtherKind, BookRule, StepsFull, NoOrder, NotALine, BadSum, BadFrame, Memory, Placed, NotReady, NoOrderSo}

abbrev pub refusal_text : Refusal → List ℕ
refusal_text UnknownTask = codes "no task has the number"
refusal_text SheetFull = codes "sixteen tasks are there"
refusal_text Durations = codes "durations must keep 1 <= min <= max <= 65535"
refusal_text Circle = codes "the link would close a circle"
refusal_text NoLink = codes "there is no such direct link"
refusal_text DeadlineRange = codes "a deadline must keep 1 <= deadline <= 1048575"
refusal_text OtherKind = codes "a soft task can't be marked hard, nor a hard one soft"
refusal_text BookRule = codes "the ramp, the step or the weight breaks its rule"
refusal_text StepsFull = codes "six steps are there"
refusal_text NoOrder = codes "no order is lawful"
refusal_text NotALine = codes "the bytes are not a line"
refusal_text BadSum = codes "the bytes of the frame don't add up to 0 modulo 256"
refusal_text BadFrame = codes "the frame is of no known kind, or of a wrong length"
refusal_text Memory = codes "the memory is too short"
refusal_text Placed = codes "the task is placed already"
refusal_text NotReady = codes "a direct predecessor is not placed"
refusal_text NoOrderSo = codes "no lawful order begins so"

-- a space and the number
abbrev pub spaced : ℕ → List ℕ
spaced n = codes " " ++ decimal n
