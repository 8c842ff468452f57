use Rattle.std.proofs.Common.{◌∙◌, sym, ap, ℕ, arith, replicate, take}
use Rattle.std.proofs.lemmas.List.{length-replicate}
use Rattle.book.specs.Standard.{contents}
use Rattle.file.proofs.Lengths.{saved-short}
use Rattle.file.proofs.Reloads.{loads-same, saved-some, saved_loads, text-front}
use Rattle.file.specs.Loads.{loaded}
use Rattle.file.specs.Saved.{saved}
use Rattle.file.proofs.laws.reloaded.Goals as goal
use Rattle.sheet.specs.Sheets.{table}

pub returns-in_err-len : goal.returns-in_err-len
returns-in_err-len c =
    absurd (saved-some (saved (table c.args.sheet.now) (contents c.args.book.now)) (replicate 5200 0) c.save.new.out c.save.result (omega (arith, length-replicate {A = ℕ} 5200 0, saved-short c.args.sheet.now c.args.book.now)) c.save.ensures (sym c.in_err-len.was ∙ c.ok.ensures.value))

pub returns : goal.returns
returns c =
    let front = text-front (saved (table c.args.sheet.now) (contents c.args.book.now)) (replicate 5200 0) c.save.new.out c.save.result c.in_ok-len.len c.save.ensures (sym c.in_ok-len.was ∙ c.ok.ensures.value) in
    let loads = ap loaded front ∙ saved_loads c.args.sheet.now c.args.book.now in
    c.ok-2.ensures.value ∙ loads-same (take c.in_ok-len.len c.save.new.out) c.args.sheet.now c.args.book.now loads c.load_new.result c.load_new.ensures
