-- What one line of a sheet file says of a task. Assumes nothing.
--     HardLine line k d    the line is that of hard task k with the deadline d, and perhaps of a note
use Rattle.std.specs.Prelude.{List, ℕ, Option}
use Rattle.file.specs.Frames.{Fits, encoded}
use Rattle.file.specs.Lines.{IsLine}
use Rattle.file.specs.declared.frame.Frame.TheVariants.{Hard}

pub record HardLine (line : List ℕ) (k d : ℕ) : Type 0 where
  pub note : Option (List ℕ)
  pub fits : Fits (Hard k d)
  pub made : IsLine line (encoded (Hard k d)) note
