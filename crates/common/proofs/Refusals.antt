-- The first row that fits has the smallest number. Assumes nothing.
use Rattle.std.proofs.Common.{◌≡◌, refl, true, false, [], ◌∷◌, ℕ, ◌≤◌, ◌<◌, arith, All, Contains, IsTrue, Bool}
use Rattle.std.proofs.lemmas.List.Elements.{All-nil, All-cons, Contains-append_right}
use Rattle.std.proofs.lemmas.Bool.{false≢true}
use Rattle.std.proofs.lemmas.Grind.{common_steps}
use Rattle.common.specs.Refusals.{number, Rows, first_fit, Smallest}
use Rattle.common.specs.declared.refusal.Refusal.{Refusal}

-- no refusal has the number 0
pub number-pos : (e : Refusal) → 0 < number e
number-pos e = grind (arith, common_steps)

-- ---- the smallest number

-- the numbers rise from row to row, and are above lo
abbrev pub Rising : ℕ → Rows → Type 0
Rising lo [] = Unit {0}
Rising lo ((fits, m) ∷ rs) = (lo < m) × Rising m rs

-- each row of rs that fits has a number of at least n, which is not 0
abbrev pub Above : ℕ → Bool × ℕ → Type 0
Above n row = IsTrue row.0 → (0 < n) × (n ≤ row.1)

-- every row of a rising list is above a number at or below its start
above : (n lo : ℕ) (rs : Rows) → Rising lo rs → 0 < n → n ≤ lo → All (Above n) rs
above n lo [] r pos le = All-nil (Above n)
above n lo (row ∷ rs) r pos le = All-cons (Above n) row rs (λ _. (pos, omega arith)) (above n row.1 rs r.1 pos (omega arith))

first-fits : (rs : Rows) → 0 < first_fit rs → Contains rs (true, first_fit rs)
first-fits [] pos = absurd (omega arith)
first-fits ((true, m) ∷ rs) pos = (0, omega arith, refl)
first-fits ((false, m) ∷ rs) pos = Contains-append_right ((false, m) ∷ []) rs _ (first-fits rs pos)

first-least : (lo : ℕ) (rs : Rows) → Rising lo rs → All (Above (first_fit rs)) rs
first-least lo [] r = All-nil (Above 0)
first-least lo ((true, m) ∷ rs) r = All-cons (Above m) (true, m) rs (λ _. (omega arith, omega arith)) (above m m rs r.1 (omega arith) (omega arith))
first-least lo ((false, m) ∷ rs) r = All-cons (Above (first_fit rs)) (false, m) rs (λ e. absurd (false≢true e)) (first-least m rs r.1)

pub fitting : (rs : Rows) → Rising 0 rs → (n : ℕ) → n ≡ first_fit rs → Smallest rs n
fitting rs rising n e = rw e (record { least = first-least 0 rs rising; fits = first-fits rs })
