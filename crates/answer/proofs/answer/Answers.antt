use Rattle.std.proofs.Common.{arith}
use Rattle.std.proofs.lemmas.List.{length-take}
use Rattle.answer.proofs.Bytes.{full-line, roomy}
use Rattle.answer.proofs.answer.Goals as goal

pub returns-in-Ok-clause-room : goal.returns-in-Ok-clause-room
returns-in-Ok-clause-room c wide =
    roomy _ c.args.out.now c.write_line.new.out c.write_line.result (omega (arith, length-take c.in-Ok.len c.answer_bytes.new.bytes, c.answer_bytes.array_long)) c.write_line.ensures wide

pub returns-in-Ok-clause-longest : goal.returns-in-Ok-clause-longest
returns-in-Ok-clause-longest c o v many = full-line o v many

pub returns-in-Err-clause-longest : goal.returns-in-Err-clause-longest
returns-in-Err-clause-longest c o v many = full-line o v many
