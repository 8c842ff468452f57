use Rattle.std.proofs.Common.{◌≡◌, ap, arith, ◌*◌, ◌-◌, ◌^◌, ◌%◌, get_or-set_other, length, length-set}
use Rattle.std.proofs.lemmas.Nat.{one_shl, pow_pos}
use Rattle.plan.proofs.Greatest.{filled-full}
use Rattle.sheet.proofs.Tables.{few-listed}
use Rattle.sheet.specs.Sheets.{table}
use Rattle.plan.proofs.cells.fill.Goals as goal

pub loop-number-init : goal.loop-number-init
loop-number-init g c =
    let t = table c.args.sheet.now in
    let few = few-listed c.args.sheet.now.table in
    let shift = one_shl c.count.result 64 (omega (arith, c.count.ensures.counts)) in
    let full : 1 * 2 ^ c.count.result % 18446744073709551616 - 1 ≡ 2 ^ length t - 1 = omega (arith, shift, ap (λ n. 2 ^ n) c.count.ensures.counts) in
    let short = pow_pos (length t) in
    record {
      filled = filled-full (g.B.Book.meaning c.args.book.now) t _ c.args.cells.now full (omega (arith, c.requires));
      kept = (length-set c.args.cells.now _ 1, λ k ge. get_or-set_other c.args.cells.now _ k 1 0 (omega arith));
    }
