use Rattle.std.proofs.Common.{rules, le_trans, drop}
use Rattle.std.proofs.KnownBytes.{Consumes-kept, Consumes-trans}
use Rattle.std.proofs.lemmas.List.{places, take-append-le}
use Rattle.answer.proofs.Streaming.{read-ended, read-full}
use Rattle.answer.proofs.stream.read_file.Goals.{in-Ok, in-Err+else-ne}
use Rattle.answer.proofs.stream.read_file.Goals as goal

pub returns-then-len-eq-MOST-clause-reads : goal.returns-then-len-eq-MOST-clause-reads
returns-then-len-eq-MOST-clause-reads g c = read-full _ _ _ c.loop.invariant.gave (search rules)

pub returns-in-Ok-eq0-clause-reads : goal.returns-in-Ok-eq0-clause-reads
returns-in-Ok-eq0-clause-reads g c =
    let gives = c.in-Ok-eq0.ensures.bytes in
    let few = c.loop.invariant.within in
    read-ended _ _ _ _ _ _ c.loop.invariant.gave few gives.0 gives.1 (search rules) (search (rules, places))

pub loop-preserved : goal.loop-preserved
loop-preserved g c =
    elim c.match-read.branch [
      | in-Ok w ↦
          let all = rw w.unwrap.ensures at w.extend_from_slice.ensures.items in
          rw w.file-is (record { room = le_trans c.loop.invariant.room w.extend_from_slice.ensures.capacity; within = search (rules, places); gave = rw all (Consumes-trans _ _ _ _ _ c.loop.invariant.gave (rw (take-append-le w.in-Ok.n c.read.new.buf (drop c.min-room.result c.loop.piece) w.in-Ok.ensures.bound.0) w.in-Ok.ensures.bytes.0)) })
      | in-Err+else-ne w ↦ rw w.file-is (record { room = c.loop.invariant.room; within = c.loop.invariant.within; gave = Consumes-kept _ _ _ _ c.loop.invariant.gave w.in-Err.ensures.bytes })
    ]
