use Rattle.file.specs.Saved.{text_of}
use Rattle.file.proofs.writer.Writer.frame.Goals as goal

pub returns-in-Ramp : goal.returns-in-Ramp
unfolding text_of
returns-in-Ramp c =
    rw c.in-Ramp.is
    (rw (c.three-in-Ramp.ensures, c.three-in-Ramp-2.ensures, c.three-in-Ramp-3.ensures) at c.line-in-Ramp.ensures)

pub returns-in-Step : goal.returns-in-Step
unfolding text_of
returns-in-Step c = rw c.in-Step.is (rw (c.three-in-Step.ensures, c.three-in-Step-2.ensures) at c.line-in-Step.ensures)
