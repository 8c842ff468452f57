use Rattle.std.proofs.Common.{refl}
use Rattle.book.specs.Ramps.{slope}
use Rattle.book.specs.Steps.{stepped}
use Rattle.common.specs.Sets.{has}
use Rattle.file.specs.Frames.{decoded}
use Rattle.file.specs.Lines.{note_in, parts}
use Rattle.file.specs.Loads.{loaded, run}
use Rattle.file.specs.Names.{trimmed}
use Rattle.file.specs.Saved.{each, text_of}
use Rattle.sheet.specs.Links.{linked, via, reaches, up}
use Rattle.sheet.specs.Margins.{needed, demand}
use Rattle.sheet.specs.Tables.{expected_of, maximum_of}
use Rattle.known.proofs.worked.Goals as goal

pub returns : goal.returns
unfolding has linked via reaches up expected_of maximum_of needed demand slope stepped decoded note_in parts trimmed each text_of loaded run
returns c = refl
