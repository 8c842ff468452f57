use Rattle.std.proofs.Common.{arith}
use Rattle.std.proofs.KnownBytes.{Appends-kept}
use Rattle.answer.proofs.Streaming.{took, took-within}
use Rattle.answer.proofs.stream.write_whole.Goals.{in-Ok, in-Err+else-ne}
use Rattle.answer.proofs.stream.write_whole.Goals as goal

pub loop-preserved : goal.loop-preserved
loop-preserved g c =
    elim c.match-write.branch [
      | in-Ok w ↦
          let within = took-within c.args.line.now c.loop.at w.in-Ok.n c.loop.invariant.more w.in-Ok.ensures.bound in
          let unequal = c.if-at-line.false in
          let is = w.at-is in
          rw w.at-is (record {
            more = grind (arith, within, unequal, is);
            taken = took _ _ _ c.args.line.now c.loop.at w.in-Ok.n c.loop.invariant.taken w.in-Ok.ensures.bytes;
          })
      | in-Err+else-ne w ↦ rw w.at-is (record { more = c.loop.invariant.more; taken = Appends-kept _ _ _ _ c.loop.invariant.taken w.in-Err.ensures.bytes })
    ]
