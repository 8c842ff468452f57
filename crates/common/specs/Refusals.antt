-- The number of each refusal, which of the refusals that fit a call is answered, and what a refused call leaves. Assumes nothing.
--     number e                 the number of a refusal
--     outcome r                0 for an accepted call, else the number of its refusal
--     first_fit rs             the number of the first of the rows rs that fits, 0 where none does
--     Smallest rs n            n is the smallest number of a row that fits, and 0 where none does
--     kept_unless n new old    what a call leaves that answers n
--     Answered rs new old left n    what every call on a sheet or a book promises that may be refused
use Rattle.std.specs.Prelude.{Bool, true, List, [], ◌∷◌, ◌≡◌, ℕ, ◌≤◌, ◌<◌, Result, Ok, Err, if◌then◌else◌, ◌==◌, IsTrue, All, Contains}
use Rattle.common.specs.declared.refusal.Refusal.{Refusal}
use Rattle.common.specs.declared.refusal.Refusal.TheVariants.{UnknownTask, SheetFull, Durations, Circle, NoLink, DeadlineRange, OtherKind, BookRule, StepsFull, NoOrder, NotALine, BadSum, BadFrame, Memory, Placed, NotReady, NoOrderSo}

abbrev pub number : Refusal → ℕ
number UnknownTask = 1
number SheetFull = 2
number Durations = 3
number Circle = 4
number NoLink = 5
number DeadlineRange = 6
number OtherKind = 7
number BookRule = 8
number StepsFull = 9
number NoOrder = 10
number NotALine = 11
number BadSum = 12
number BadFrame = 13
number Memory = 14
number Placed = 15
number NotReady = 16
number NoOrderSo = 17

abbrev pub outcome : {A : Type 0} → Result A Refusal → ℕ
outcome (Ok v) = 0
outcome (Err e) = number e

-- the refusals that a call may get, by number, each with the test whether it fits
abbrev pub Rows : Type 0
Rows = List (Bool × ℕ)

abbrev pub first_fit : Rows → ℕ
first_fit [] = 0
first_fit ((fits, n) ∷ rs) = if fits then n else first_fit rs

pub record Smallest (rs : Rows) (n : ℕ) : Type 0 where
  -- no row that fits has a number below n, and n is 0 only where none fits
  pub least : All (λ row. IsTrue row.0 → (0 < n) × (n ≤ row.1)) rs
  -- some row that fits has the number n
  pub fits : 0 < n → Contains rs (true, n)

-- the new value where the call is accepted, the old one where it is refused
abbrev pub kept_unless : {A : Type 0} → ℕ → A → A → A
kept_unless n new old = if n == 0 then new else old

-- by its rows the call answers n, and it leaves the new value where it is accepted, the old one where it is refused
pub record Answered {A : Type 0} (rs : Rows) (new old left : A) (n : ℕ) : Type 0 where
  pub says : n ≡ first_fit rs
  pub smallest : Smallest rs n
  pub leaves : left ≡ kept_unless n new old
