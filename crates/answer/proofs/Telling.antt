-- What plan answers for what a file makes is what is answered for the history that loads this file. Assumes nothing.
use Rattle.std.proofs.Common.{◌≡◌, refl, sym, ap, ◌∙◌, subst, List, [], ◌∷◌, ℕ, length, take, Result, Ok, Err}
use Rattle.answer.proofs.Only.{told-alike}
use Rattle.answer.proofs.Showing.{order-shown, refusal-shown}
use Rattle.answer.specs.Answers.{Answering, AnswersAll, Shows, Told, fault_bytes, order_bytes, plan_bytes}
use Rattle.book.specs.Standard.{worth_of}
use Rattle.book.specs.Worths.{Sound}
use Rattle.common.specs.Refusals.{number}
use Rattle.common.specs.declared.refusal.Refusal.{Refusal}
use Rattle.file.specs.Faults.{Figures, told}
use Rattle.file.specs.Loads.{Made, loaded}
use Rattle.history.specs.Histories.{Passed, resulting, tasks_or}
use Rattle.history.specs.declared.Call.TheVariants.{Load}
use Rattle.plan.specs.BestOrder.{BestOrder}
use Rattle.plan.specs.Planned.{Planned}
use denote.Ref.{Bor}

module _ (m : Made) (cs cs' os os' : List ℕ) (many : length cs ≡ 16384) (long : length os ≡ 14) where
  abbrev Plans : Result ℕ Refusal → Type 0
  Plans r = Planned (worth_of m.worths) m.tasks cs cs' os os' r × BestOrder (worth_of m.worths) m.tasks cs os os' r

  -- the load leaves the memory as it is
  length-after : (f : Bor (List ℕ)) (c c' o o' : List ℕ) → Passed (worth_of m.worths) [] (Load f ∷ []) c c' o o' → (length c' ≡ length c) × (length o' ≡ length o)
  length-after f c c' o o' p = (ap length (p.3.0 ∙ p.2.0), ap length (p.3.1 ∙ p.2.1))

  replayed : (r : Result ℕ Refusal) → Plans r → (f : Bor (List ℕ)) → loaded f.now ≡ Ok m → Told (Load f ∷ []) m.worths (plan_bytes m.tasks os' r)
  replayed r p f makes =
      let t = resulting (Load f ∷ []) in
      let is : m.tasks ≡ t = sym (ap (tasks_or []) makes) in
      let planned : Planned (worth_of m.worths) t cs cs' os os' r = subst (λ t. Planned (worth_of m.worths) t cs cs' os os' r) is p.0 in
      let tells : plan_bytes m.tasks os' r ≡ plan_bytes t os' r = ap (λ t. plan_bytes t os' r) is in
      record {
        cells = cs;
        cells' = cs';
        buffer = os;
        buffer' = os';
        r = r;
        lent = (many, long);
        best = subst (λ t. BestOrder (worth_of m.worths) t cs os os' r) is p.1;
        leaves = record { c = cs; o = os; calls = (cs, os, (refl, refl), (refl, refl)); plan = planned };
        tells = tells;
        only = λ c c' o o' s cells buffer replay.
            let lengths = length-after f c replay.c o replay.o replay.calls in
            tells ∙ told-alike (worth_of m.worths) t cs cs' replay.c c' os os' replay.o o' (sym (lengths.0 ∙ cells)) (sym (lengths.1 ∙ buffer)) r s planned replay.plan;
      }

  answers : (r : Result ℕ Refusal) → Plans r → Shows m (plan_bytes m.tasks os' r) → AnswersAll m (plan_bytes m.tasks os' r)
  answers r p shows file makes =
      subst (λ (made : Result Made Figures). Answering file made (plan_bytes m.tasks os' r)) (sym makes) (shows, λ f is. replayed r p f (ap loaded is ∙ makes))

  pub refusal-told : (r : Result ℕ Refusal) → Planned (worth_of m.worths) m.tasks cs cs' os os' r → BestOrder (worth_of m.worths) m.tasks cs os os' r →
      (e : Refusal) → r ≡ Err e → AnswersAll m (fault_bytes (told 5 (number e) 0))
  refusal-told r planned best e is = answers (Err e) (subst Plans is (planned, best)) (refusal-shown m cs cs' os os' many long r planned e is)

  pub order-told : Sound (worth_of m.worths) → (r : Result ℕ Refusal) → Planned (worth_of m.worths) m.tasks cs cs' os os' r → BestOrder (worth_of m.worths) m.tasks cs os os' r →
      (v : ℕ) → r ≡ Ok v → AnswersAll m (order_bytes (take (length m.tasks) os') v)
  order-told sound r planned best v is =
      answers (Ok v) (subst Plans is (planned, best)) (order-shown m cs cs' os os' many long sound r planned v is)
