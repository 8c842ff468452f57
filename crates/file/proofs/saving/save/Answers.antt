use Rattle.std.proofs.Common.{arith}
use Rattle.file.proofs.Writes.{over-front}
use Rattle.file.proofs.saving.save.Goals as goal

pub returns : goal.returns
returns c =
    (c.write.ensures.counted, omega arith, rw (c.write.ensures.counted, c.write.ensures.laid) (over-front c.args.out.now _ (omega arith)))
