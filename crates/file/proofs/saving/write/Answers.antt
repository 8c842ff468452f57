use Rattle.std.proofs.Common.{arith}
use Rattle.file.proofs.Lengths.{saved-short}
use Rattle.file.proofs.saving.write.Goals as goal

pub returns-clause-counted : goal.returns-clause-counted
returns-clause-counted c = omega (arith, saved-short c.args.sheet.now c.args.book.now)
