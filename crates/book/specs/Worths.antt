-- What a book means: a worth for each task number and each time; and what is layered over books. Assumes nothing.
--     top            no worth is above it
--     latest         the last time that a curve may name
--     Sound m        what every book shows of its meaning m
--     added m n      two books together, at most the top
--     weighed w m    a book times each task's weight, at most the top
--     Layered m      m is the meaning of one book, or of books layered in any way
use Rattle.std.specs.Prelude.{◌≡◌, ℕ, ◌+◌, ◌*◌, ◌≤◌, ◌<◌, min}

abbrev pub top : ℕ
top = 1000000

abbrev pub latest : ℕ
latest = 1048575

abbrev pub Meaning : Type 0
Meaning = (task at : ℕ) → ℕ

pub record Sound (m : Meaning) : Type 0 where
  pub bounded : (task at : ℕ) → m task at ≤ top
  -- a later time never has a greater worth
  pub falls : (task a b : ℕ) → a ≤ b → m task b ≤ m task a
  -- a number above 15 is worth nothing
  pub bare : (task at : ℕ) → 15 < task → m task at ≡ 0

abbrev pub added : Meaning → Meaning → Meaning
added m n task at = min top (m task at + n task at)

abbrev pub weighed : (ℕ → ℕ) → Meaning → Meaning
weighed w m task at = min top (w task * m task at)

pub data Layered : Meaning → Type 0 where
  one : {m : Meaning} → Sound m → Layered m
  sum : {m n : Meaning} → Layered m → Layered n → Layered (added m n)
  weight : {m : Meaning} (w : ℕ → ℕ) → Layered m → Layered (weighed w m)
