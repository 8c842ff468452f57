use Rattle.std.proofs.Common.{refl, rules, arith}
use Rattle.std.proofs.lemmas.Iterator.{YieldsList-from_range}
use Rattle.std.proofs.lemmas.Iterator.Search.{all_from_yields_List}
use Rattle.sheet.proofs.Margins.{fits-none, fits_is, task_met}
use Rattle.sheet.specs.Sheets.{table}
use Rattle.sheet.proofs.sheet.Sheet.fits_after.Goals as goal

pub returns-clause-fits : goal.returns-clause-fits
returns-clause-fits c =
    let t = table c.args.self.now in
    fits_is t c.args.done.0 _ (all_from_yields_List (task_met t c.args.done.0) _ _ _ c.all.ensures.ran (YieldsList-from_range 0 c.count.result _ refl (omega (arith, c.count.ensures.counts))) (λ x b q k. search rules))

pub returns-clause-none_run : goal.returns-clause-none_run
returns-clause-none_run c = fits-none (table c.args.self.now)
