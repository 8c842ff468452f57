use Rattle.std.proofs.Common.{sym, ◌∙◌, subst}
use Rattle.std.proofs.lemmas.List.{append_assoc}
use Rattle.plan.specs.Orders.{Lawful}
use Rattle.row.proofs.Firsts.{first-whole}
use Rattle.row.proofs.Judging.{judged-accepted}
use Rattle.row.proofs.laws.plan_weighs_most.Goals as goal

pub returns-clause-takes : goal.returns-clause-takes
returns-clause-takes c m t row k rest best b e =
    judged-accepted t row k (rest, subst (Lawful t) (e ∙ sym (append_assoc row _ rest)) b.lawful)

pub returns-clause-ends : goal.returns-clause-ends
returns-clause-ends c m t best o b f = first-whole t best o b.lawful f
