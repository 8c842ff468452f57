use Rattle.std.proofs.lemmas.Bool.{both_ways}
use Rattle.plan.proofs.Fitting.{fits-tells}
use Rattle.row.proofs.Laying.{empty-leads}
use Rattle.sheet.proofs.Rules.{sound-of}
use Rattle.sheet.specs.Sheets.{table}
use Rattle.row.proofs.begin.Goals as goal

pub on-requires : goal.on-requires
on-requires c = (fits-tells (table c.args.sheet.now) (sound-of c.args.sheet.now)).0 (c.fits.ensures.0 c.if-fits.true)

pub on-requires-else-fits : goal.on-requires-else-fits
on-requires-else-fits c = rw c.new.ensures empty-leads

pub returns-then-fits-clause-begun : goal.returns-then-fits-clause-begun
returns-then-fits-clause-begun c z = (c.on.ensures.sheet, (fits-tells (table c.args.sheet.now) (sound-of c.args.sheet.now)).0 (c.fits.ensures.0 c.if-fits.true))

pub returns-else-fits-clause-refused : goal.returns-else-fits-clause-refused
returns-else-fits-clause-refused c z = (
  rw c.on-else-fits.ensures.sheet c.new.ensures,
  λ o l. both_ways _ c.if-fits.false (c.fits.ensures.1 ((fits-tells (table c.args.sheet.now) (sound-of c.args.sheet.now)).1 (o, l))),
)
