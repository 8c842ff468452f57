-- What `link` and `cut` mean, in the words of links and paths. Assumes nothing.
use Rattle.std.specs.Prelude.{◌≡◌, true, not, ◌&&◌, ◌||◌, ◌⊎◌, ℕ, ◌<◌, ◌==◌, IsTrue, ◌↔◌, length}
use Rattle.common.specs.Refusals.{number}
use Rattle.common.specs.declared.refusal.Refusal.TheVariants.{Circle}
use Rattle.sheet.specs.Links.{Path, linked, reaches, up}
use Rattle.sheet.specs.Tables.{Table}

-- link(a, b) on the table t answers n and leaves t'
pub record Linking (t t' : Table) (a b n : ℕ) : Type 0 where
  -- the test of a circle finds exactly the paths
  pub test : (x y : ℕ) → IsTrue (reaches t x y) ↔ Path t x y
  -- the refusal of a circle is answered exactly where both tasks exist and the link would close a circle
  pub circle : (n ≡ number Circle) ↔ ((a < length t) × (b < length t) × ((b ≡ a) ⊎ Path t b a))
  -- an accepted link is there afterwards, and no other is new or gone
  pub adds : n ≡ 0 → (x y : ℕ) → linked t' x y ≡ (linked t x y || (x == a && y == b))
  -- a link that is there already changes nothing
  pub again : linked t a b ≡ true → t' ≡ t

-- cut(a, b) on the table t leaves t'
pub record Cutting (t t' : Table) (a b : ℕ) : Type 0 where
  -- that direct link is not there afterwards, and no other is new or gone
  pub only : (x y : ℕ) → linked t' x y ≡ (linked t x y && not (x == a && y == b))
  -- where another path from a to b remains, every up-set is as it was
  pub stays : Path t' a b → (u x : ℕ) → up t' u x ≡ up t u x
