-- What plan answers and leaves is shown. Assumes nothing.
use Rattle.std.proofs.Common.{◌≡◌, sym, subst, ⊎_elim, List, ℕ, ◌^◌, ◌≤◌, ◌<◌, arith, length, take, Result, Ok, Err}
use Rattle.std.proofs.Math.Pow.{pow_mono}
use Rattle.std.proofs.lemmas.Bool.{cases_lt}
use Rattle.std.proofs.lemmas.List.{length-take}
use Rattle.answer.proofs.Totals.{earned-small}
use Rattle.answer.specs.Answers.{Shows, cells, fault_bytes, most, none, order, order_bytes}
use Rattle.book.specs.Standard.{worth_of}
use Rattle.book.specs.Worths.{Sound}
use Rattle.common.proofs.Refusals.{number-pos}
use Rattle.common.specs.Refusals.{number}
use Rattle.common.specs.declared.refusal.Refusal.{Refusal}
use Rattle.file.specs.Faults.{told}
use Rattle.file.specs.Loads.{Made}
use Rattle.plan.specs.Orders.{expected}
use Rattle.plan.specs.Planned.{Planned, Suffices}

module _ (m : Made) (cs cs' os os' : List ℕ) (many : length cs ≡ 16384) (long : length os ≡ 14) where
  -- memory suffices for up to 14 tasks
  enough : length m.tasks ≤ most → Suffices m.tasks cs os
  enough few = (omega (arith, pow_mono few, many), omega (arith, few, long))

  few : Suffices m.tasks cs os → length m.tasks ≤ most
  few s = omega (arith, s.1, long)

  refused : (e : Refusal) → Planned (worth_of m.worths) m.tasks cs cs' os os' (Err e) → Shows m (fault_bytes (told 5 (number e) 0))
  refused e p =
      ⊎_elim (λ is. absurd (grind (arith, is, number-pos e)))
      (⊎_elim
      (λ ten. let s = p.none.0 ten in subst (λ n. Shows m (fault_bytes (told 5 n 0))) (sym ten) (none (few s.0) s.1))
      (λ short. subst (λ n. Shows m (fault_bytes (told 5 n 0))) (sym short) (cells (⊎_elim (λ lt. lt) (λ ge. absurd (p.memory.0 short (enough ge))) (cases_lt most (length m.tasks))))))
      p.only

  planned-few : (v : ℕ) → Planned (worth_of m.worths) m.tasks cs cs' os os' (Ok v) → length m.tasks ≤ most
  planned-few v p = ⊎_elim (λ lt. absurd (grind (arith, p.memory.1 (λ s. omega (arith, few s, lt))))) (λ ge. ge) (cases_lt most (length m.tasks))

  ordered : Sound (worth_of m.worths) → (v : ℕ) → Planned (worth_of m.worths) m.tasks cs cs' os os' (Ok v) → Shows m (order_bytes (take (length m.tasks) os') v)
  ordered sound v p =
      let a = p.answer in
      let o = take (length m.tasks) os' in
      let within = planned-few v p in
      let count : length o ≤ length m.tasks = omega (arith, length-take (length m.tasks) os') in
      let small : v < 2 ^ 24 = omega (arith, a.totals, earned-small (worth_of m.worths) sound m.tasks (expected m.tasks) 0 o, count, within) in
      order o v within a.best a.totals a.runs small

  pub refusal-shown : (r : Result ℕ Refusal) → Planned (worth_of m.worths) m.tasks cs cs' os os' r → (e : Refusal) → r ≡ Err e → Shows m (fault_bytes (told 5 (number e) 0))
  refusal-shown r p e is = refused e (subst (Planned (worth_of m.worths) m.tasks cs cs' os os') is p)

  pub order-shown : Sound (worth_of m.worths) → (r : Result ℕ Refusal) → Planned (worth_of m.worths) m.tasks cs cs' os os' r → (v : ℕ) → r ≡ Ok v → Shows m (order_bytes (take (length m.tasks) os') v)
  order-shown sound r p v is = ordered sound v (subst (Planned (worth_of m.worths) m.tasks cs cs' os os') is p)

  pub few-shown : (r : Result ℕ Refusal) → Planned (worth_of m.worths) m.tasks cs cs' os os' r → (v : ℕ) → r ≡ Ok v → length m.tasks ≤ most
  few-shown r p v is = planned-few v (subst (Planned (worth_of m.worths) m.tasks cs cs' os os') is p)
