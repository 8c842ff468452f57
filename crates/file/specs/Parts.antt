-- The parts of a line as slices. Only an inner function promises them. Assumes nothing.
--     parts_now x    the frame and the note that the slices of x show
use Rattle.file.specs.Lines.{Parts, bytes_of}
use Rattle.file.specs.Readings.{note_now}
use Rattle.file.specs.declared.line.Parts.{Parts as PartSlices}

abbrev pub parts_now : PartSlices → Parts
parts_now x = record { frame = bytes_of x.digits.now; note = note_now x.note }
