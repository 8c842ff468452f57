use Rattle.std.proofs.Common.{sym, ap, ◌∙◌, subst, ℕ, arith, drop, take, length}
use Rattle.std.proofs.lemmas.Grind.{common_steps}
use Rattle.std.proofs.lemmas.List.{length-replicate}
use Rattle.answer.proofs.Bytes.{order-behind, room}
use Rattle.answer.proofs.Showing.{few-shown}
use Rattle.answer.proofs.Telling.{order-told, refusal-told}
use Rattle.answer.specs.Answers.{AnswersAll, order_bytes}
use Rattle.book.specs.StandardLaws.{standard-sound}
use Rattle.file.specs.Loads.{made}
use borrow.Rule.Slice.PartMut.{put_mid}
use Rattle.answer.proofs.plan_bytes.Goals as goal

pub returns-in_err-total-clause-stops : goal.returns-in_err-total-clause-stops
returns-in_err-total-clause-stops c =
    let m = made c.args.sheet.now c.args.book.now in
    let cells = length-replicate {A = ℕ} 16384 0 in
    let long = room c.args.bytes.now c.told-bytes in
    let all = refusal-told m _ c.plan.new.cells _ c.plan.new.order cells long c.plan.result c.plan.ensures.planned c.plan.ensures.best c.in_err-total.field-0.0 c.in_err-total.was in
    grind (arith, common_steps, all)

pub returns-clause-shows : goal.returns-clause-shows
returns-clause-shows c =
    let m = made c.args.sheet.now c.args.book.now in
    let cells = length-replicate {A = ℕ} 16384 0 in
    let long = room c.args.bytes.now c.told-bytes in
    let v = c.in_ok-total.total in
    let all = order-told m _ c.plan.new.cells _ c.plan.new.order cells long (standard-sound c.args.book.now) c.plan.result c.plan.ensures.planned c.plan.ensures.best v c.in_ok-total.was in
    let few = few-shown m _ c.plan.new.cells _ c.plan.new.order cells long c.plan.result c.plan.ensures.planned v c.in_ok-total.was in
    let behind = order-behind c.args.bytes.now c.plan.new.order (length m.tasks) c.told-bytes (omega (arith, few, long, c.plan.auto.order)) in
    let count = c.from.ensures ∙ c.count.ensures.counts in (
      c.frame_order.ensures.within,
      subst (AnswersAll m) (ap (λ o. order_bytes o v) (sym (ap (λ n. take n (drop 2 (put_mid 2 14 c.args.bytes.now c.plan.new.order))) count ∙ behind)) ∙ sym c.frame_order.ensures.framed) all,
    )
