use Rattle.std.proofs.Common.{◌≡◌, refl, arith, length}
use Rattle.file.proofs.Writes.{length-line, over-front}
use Rattle.file.specs.Frames.{bytes_line}
use Rattle.file.proofs.writer.write_line.Goals as goal

pub returns : goal.returns
returns c =
    let long = length-line c.args.bytes.now in
    let same : c.saturating_add-len.result ≡ length (bytes_line c.args.bytes.now) = omega (arith, long) in
    (same, omega arith, rw (same, c.lay_line.ensures) (over-front c.args.out.now _ (omega (arith, same))))

pub returns-then-out-len : goal.returns-then-out-len
returns-then-out-len c = (refl, omega (arith, length-line c.args.bytes.now), refl)
