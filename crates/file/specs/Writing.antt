-- How text is laid into memory. Only inner functions promise it. Assumes nothing.
--     over xs at text    xs with the text laid over it from place `at` on, as far as xs reaches
--     Wrote w text x     the writer w has become x by writing the text, to the same memory; the count stops at the largest number
use Rattle.std.specs.Prelude.{List, [], ◌∷◌, ◌≡◌, ℕ, suc, ◌+◌, ◌-◌, ◌^◌, length, min, set}
use Rattle.file.specs.declared.writer.Writer.{Writer}

unfoldable pub over : (xs : List ℕ) (at : ℕ) (text : List ℕ) → List ℕ
over xs at [] = xs
over xs at (b ∷ bs) = over (set xs at b) (suc at) bs

pub record Wrote (w : Writer) (text : List ℕ) (x : Writer) : Type 0 where
  pub same : x.out.ghost_name ≡ w.out.ghost_name
  pub laid : x.out.now ≡ over w.out.now w.len text
  pub counted : min x.len (2 ^ 64 - 1) ≡ min (w.len + length text) (2 ^ 64 - 1)
