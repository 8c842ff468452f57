use Rattle.std.proofs.Common.{◌≤◌, arith, length}
use Rattle.std.proofs.lemmas.List.{take_all, take_more}
use Rattle.file.proofs.Writes.{Wrote-none, Wrote-then, line-closes, pairs-append}
use Rattle.file.proofs.writer.Writer.line.Goals as goal

pub loop-byte-init : goal.loop-byte-init
loop-byte-init c = Wrote-none _

pub loop-byte-preserved : goal.loop-byte-preserved
loop-byte-preserved c =
    rw (take_more c.args.bytes.now c.loop-byte.byte-index 0 c.loop-byte-test.true, pairs-append)
    (Wrote-then (omega arith) c.loop-byte.invariant c.pair.ensures)

pub returns : goal.returns
returns c =
    let past : length c.args.bytes.now ≤ c.loop-byte.byte-index = omega arith in
    let whole = rw take_all at c.loop-byte.invariant in
    rw (line-closes, ← c.closing.ensures)
    (Wrote-then (omega arith) (Wrote-then (omega arith) whole c.pair-2.ensures) c.put.ensures)
