use Rattle.std.proofs.Common.{replicate}
use Rattle.std.proofs.lemmas.Result.{on_err_weaker}
use Rattle.answer.proofs.Streaming.{front}
use Rattle.answer.proofs.stream.write_answer.Goals as goal

pub returns-clause-stops : goal.returns-clause-stops
returns-clause-stops g c =
    let a = c.answer.ensures.answers in
    let is = front _ (replicate 41 0) _ _ _ a.written c.unwrap-len.ensures in
    on_err_weaker c.write_whole.result (λ begun. (_, (a.bytes, a.answers, is), begun)) c.write_whole.ensures.stops
