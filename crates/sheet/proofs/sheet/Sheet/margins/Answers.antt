use Rattle.std.proofs.Common.{◌≡◌, rules, arith, sym, None}
use Rattle.common.proofs.Made.{made_same}
use Rattle.sheet.proofs.Margins.{margin_none, no-margin}
use Rattle.sheet.proofs.Tables.{few-listed}
use Rattle.sheet.specs.Margins.{margin_of}
use Rattle.sheet.specs.Sheets.{table}
use Rattle.sheet.proofs.sheet.Sheet.margins.Goals as goal

pub returns-clause-each : goal.returns-clause-each
returns-clause-each c =
    let t = table c.args.self.now in
    made_same _ (λ k m. m ≡ margin_of t k) _ 16 (λ i y f' low call. search (rules, margin_none)) _ None c.from_fn.ensures.items (λ k ge. sym (no-margin t k (omega (arith, few-listed c.args.self.now.table))))
