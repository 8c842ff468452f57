-- What plan answers keeps its promise. Assumes nothing.
use Rattle.std.proofs.Common.{◌≡◌, refl, ap, ◌∙◌, inl, inr, List, ℕ, ◌+◌, ◌*◌, ◌^◌, ◌%◌, ◌≤◌, arith, length, get_or, take, Ok, Err}
use Rattle.std.proofs.lemmas.Nat.{one_shl, pow_pos}
use Rattle.book.specs.Worths.{Meaning, Sound}
use Rattle.common.specs.declared.refusal.Refusal.TheVariants.{NoOrder}
use Rattle.plan.proofs.Greatest.{lawful-left}
use Rattle.plan.proofs.Runs.{runs-of}
use Rattle.plan.proofs.Walks.{best-total}
use Rattle.plan.specs.Cells.{Filled}
use Rattle.plan.specs.Planned.{KeptFrom, Planned, Suffices}
use Rattle.plan.specs.Totals.{Best}
use Rattle.sheet.specs.Tables.{Table}

-- a shift that counts the sets
pub shift-counts : (n c : ℕ) → c ≡ n → n ≤ 16 → 1 * 2 ^ c % 18446744073709551616 ≡ 2 ^ n
shift-counts n c e few = one_shl c 64 (omega arith) ∙ ap (λ i. 2 ^ i) e

module _ (m : Meaning) (t : Table) (cells cells' order : List ℕ) (room : Suffices t cells order) (filled : Filled m t cells') (kept : KeptFrom (2 ^ length t) cells cells') where
  pub planned-none : get_or cells' 0 0 ≡ 0 → Planned m t cells cells' order order (Err NoOrder)
  planned-none e =
      record {
        memory = (λ z. absurd (omega arith), λ short. absurd (short room));
        unwritten = λ z. absurd (omega arith);
        fills = λ r. (filled, kept);
        none = (λ z. (room, (lawful-left m t _ (filled 0 (pow_pos (length t)))).0 e), λ r. refl);
        unordered = λ z. refl;
        answer = tt;
        only = inr (inl refl);
      }

  pub planned-order : Sound m → (order' : List ℕ) (v : ℕ) → get_or cells' 0 0 ≡ v + 1 → Best m t (take (length t) order') → KeptFrom (length t) order order' → Planned m t cells cells' order order' (Ok v)
  planned-order sound order' v e best behind =
      let first = filled 0 (pow_pos (length t)) in
      record {
        memory = (λ z. absurd (omega arith), λ short. absurd (short room));
        unwritten = λ z. absurd (omega arith);
        fills = λ r. (filled, kept);
        none = (λ z. absurd (omega arith), λ r. absurd (r.1 (take (length t) order') best.lawful));
        unordered = λ z. absurd (omega arith);
        answer = record {
          best = best;
          totals = omega (arith, best-total m t (get_or cells' 0 0) (take (length t) order') first best);
          runs = runs-of m sound t (take (length t) order') best.lawful;
          kept = behind;
        };
        only = inl refl;
      }
