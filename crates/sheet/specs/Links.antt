-- Links, and the paths that they make. Assumes nothing.
--     linked t a b     there is a link from a to b: a stands before b
--     Path t a b       one or more links lead from a to b
--     reaches t a b    the test of a path
--     up t u x         u is in the up-set of x: it is x, or a path leads from it to x
--     Closed t s       with each task, the set s has all that are linked to it
use Rattle.std.specs.Prelude.{◌≡◌, Bool, true, ◌&&◌, ◌||◌, ℕ, zero, suc, ◌==◌, length}
use Rattle.common.specs.Sets.{has}
use Rattle.sheet.specs.Tables.{Table, task_of}

unfoldable pub linked : Table → ℕ → ℕ → Bool
linked t a b = has (task_of t b).before.0 a

pub data Path (t : Table) : ℕ → ℕ → Type 0 where
  one : {a b : ℕ} → linked t a b ≡ true → Path t a b
  more : {a c b : ℕ} → linked t a c ≡ true → Path t c b → Path t a b

-- a path from a to b with none but tasks below k between its ends
unfoldable pub via : Table → ℕ → ℕ → ℕ → Bool
via t zero a b = linked t a b
via t (suc k) a b = via t k a b || (via t k a k && via t k k b)

unfoldable pub reaches : Table → ℕ → ℕ → Bool
reaches t a b = via t (length t) a b

unfoldable pub up : Table → ℕ → ℕ → Bool
up t u x = u == x || reaches t u x

abbrev pub Closed : Table → ℕ → Type 0
Closed t s = (a b : ℕ) → linked t a b ≡ true → has s b ≡ true → has s a ≡ true
