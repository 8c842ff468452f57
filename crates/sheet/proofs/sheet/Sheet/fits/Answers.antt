use Rattle.sheet.proofs.Margins.{fits-none}
use Rattle.sheet.specs.Sheets.{table}
use Rattle.sheet.proofs.sheet.Sheet.fits.Goals as goal

pub returns : goal.returns
returns c = let f = fits-none (table c.args.self.now) in (λ e. f.0 (c.fits_after.ensures.fits.0 e), λ h. c.fits_after.ensures.fits.1 (f.1 h))
