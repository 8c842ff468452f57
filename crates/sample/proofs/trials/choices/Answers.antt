use Rattle.std.proofs.Common.{◌≡◌, ◌↔◌, ◌⊎◌, ⊎_elim, ℕ, ◌+◌, ◌<◌, ◌||◌, ◌&&◌, true, [], ◌∷◌, ◌++◌, eqb, ltb, arith}
use Rattle.std.proofs.lemmas.Bool.{both_ways, cases_eq, cases_lt}
use Rattle.std.proofs.lemmas.Bool.Decides.{nat_tests}
use Rattle.std.proofs.lemmas.Grind.{common_steps}
use Rattle.common.proofs.Sets.{has-none}
use Rattle.common.specs.Sets.{has}
use Rattle.plan.specs.Orders.{Order}
use Rattle.row.proofs.Laying.{next-may}
use Rattle.row.specs.Laid.{laid}
use Rattle.row.specs.Rows.{Leads}
use Rattle.sheet.proofs.Tables.{few-listed}
use Rattle.sheet.specs.Sheets.{table}
use Rattle.sheet.specs.Tables.{Table}
use Rattle.sample.proofs.trials.choices.Goals as goal
use Rattle.sample.proofs.trials.choices.Goals.{then-refusal-eq0, else-refusal-eq0}

-- the set s has the tasks below n that may be placed next
abbrev Each : Table → Order → (s n : ℕ) → Type 0
Each t row s n = (k : ℕ) → (has s k ≡ true) ↔ ((k < n) × Leads t (row ++ k ∷ []))

module _ (t : Table) (row : Order) (s n : ℕ) (each : Each t row s n) where
  more : (w : ℕ) → n < 16 → ((u : ℕ) → has w u ≡ (has s u || (ltb n 16 && eqb u n))) → Leads t (row ++ n ∷ []) → Each t row w (n + 1)
  more w lt members leads k = (
    λ h. ⊎_elim
        (λ low. (omega arith, ((each k).0 (grind (arith, nat_tests, members k))).1))
        (λ ge. let e : k ≡ n = ⊎_elim (λ le. le) (λ past. absurd (let z = (each k).0 (grind (arith, nat_tests, members k)) in omega arith)) (cases k) in (omega arith, rw e leads))
        (cases_lt k n),
    λ p. ⊎_elim
        (λ low. let h = (each k).1 (low, p.1) in grind (arith, nat_tests, members k))
        (λ ge. let e : k ≡ n = omega (arith, p.0) in grind (arith, nat_tests, members k))
        (cases_lt k n),
  )
    where
      cases : (k : ℕ) → (k ≡ n) ⊎ (k ≡ n → ⊥)
      cases k = cases_eq k n

  same : (Leads t (row ++ n ∷ []) → ⊥) → Each t row s (n + 1)
  same none k = (
    λ h. let p = (each k).0 h in (omega (arith, p.0), p.1),
    λ p. ⊎_elim (λ low. (each k).1 (low, p.1)) (λ ge. let e : k ≡ n = omega (arith, p.0) in absurd (none (rw e at p.1))) (cases_lt k n),
  )

pub loop-t-init : goal.loop-t-init
loop-t-init g c = record { each = λ k. (λ h. absurd (both_ways _ (has-none k) h), λ p. let z = p.0 in absurd (omega arith)); kept = grind (arith, common_steps) }

pub loop-t-preserved : goal.loop-t-preserved
loop-t-preserved g c =
    let t = table c.args.row.now.sheet in
    let row = laid c.args.row.now in
    let each = c.loop-t.invariant.each in
    record {
      each = elim c.if-refusal-eq0.branch [
        | then-refusal-eq0 w ↦
            let zero : c.trial-trial.result.refusal ≡ 0 = grind (arith, common_steps) in
            rw w.choices-is (more t row _ _ each _ (omega (arith, c.loop-t-test.true)) w.with-choices.ensures.members (c.trial-trial.ensures.says.accepted.0 zero))
        | else-refusal-eq0 w ↦
            rw w.choices-is (same t row _ _ each (λ x. let zero = c.trial-trial.ensures.says.accepted.1 x in absurd (grind (arith, common_steps))))
      ];
      kept = grind (arith, common_steps);
    }

pub returns-clause-each : goal.returns-clause-each
returns-clause-each g c k =
    let each = c.loop-t.invariant.each k in
    let sheet = c.args.row.now.sheet in (
      λ h. (each.0 h).1,
      λ x. each.1 (omega (arith, (next-may (table sheet) (laid c.args.row.now) k x).task, few-listed sheet.table, c.loop-t-test.false), x),
    )
