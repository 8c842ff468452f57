-- What the sample kind of book means. Assumes nothing.
use Rattle.std.specs.Prelude.{◌&&◌, ℕ, nat_le, nat_lt, ◌≤◌, if◌then◌else◌}
use Rattle.std.proofs.Common.{arith}
use Rattle.std.proofs.lemmas.Grind.{common_steps}
use Rattle.book.specs.Worths.{Meaning, Sound, top}

-- every task is worth the same up to and including a time, and then nothing
abbrev pub flat : (worth until : ℕ) → Meaning
flat worth until task at = if nat_lt task 16 && nat_le at until then worth else 0

-- no contract cites this proof
pub flat-sound : (worth until : ℕ) → worth ≤ top → Sound (flat worth until)
flat-sound worth until low =
    record {
      bounded = λ task at. grind (arith, common_steps);
      falls = λ task a b h. grind (arith, common_steps);
      bare = λ task at h. grind (arith, common_steps);
    }
