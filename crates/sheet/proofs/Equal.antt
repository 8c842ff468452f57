-- Sheets with the same table are the same, and so are alike sheets, under the rules of a sheet. Assumes nothing.
use Rattle.std.proofs.Common.{◌≡◌, sym, ap, ap₂, ◌∙◌, ◌++◌, ℕ, ◌-◌, ◌<◌, arith, length, replicate}
use Rattle.std.proofs.lemmas.Bool.Decides.{Decides-like, nat_tests}
use Rattle.std.proofs.lemmas.List.{get_or_default, same_lists}
use Rattle.std.specs.Prelude.{◌↔◌, IsTrue}
use Rattle.common.proofs.Sets.{same-set}
use Rattle.sheet.proofs.Tables.{len-back, tasks-back}
use Rattle.sheet.specs.EqualLaws.{same-places, same-sheets, sheets_exact}
use Rattle.sheet.specs.Links.{linked}
use Rattle.sheet.specs.Lists.{listed}
use Rattle.sheet.specs.Rules.{Alike, Known}
use Rattle.sheet.specs.Sheets.{table}
use Rattle.sheet.specs.Tables.{Table, blank, task_of}
use Rattle.sheet.specs.contracts.sheet.SheetPartialEq.TheImpl.{eq-value as sheet-eq}
use Rattle.sheet.specs.declared.sheet.Sheet.{Sheet}
use Rattle.sheet.specs.declared.table.Table.{Table as Places}
use Rattle.sheet.specs.declared.table.Task.{Task}

-- tables that hold the same tasks are the same, for the places behind them are blank; so a sheet holds nothing that its table does
-- not show
same-listed : (s t : Places) → listed s ≡ listed t → s ≡ t
same-listed s t h =
    let len : s.len ≡ t.len = sym (len-back s) ∙ ap length h ∙ len-back t in
    same-places s t len (sym (tasks-back s) ∙ ap₂ (λ xs n. xs ++ replicate (16 - n) blank) h len ∙ tasks-back t)

pub same_tables : (a b : Sheet) → table a ≡ table b → a ≡ b
same_tables a b h = same-sheets a b (same-listed a.table b.table h)

-- ---- alike tables

pub same-tasks : (x y : Task) → x.min ≡ y.min → x.max ≡ y.max → x.kind ≡ y.kind → x.before.0 ≡ y.before.0 → x ≡ y
same-tasks x y a b c d = λ i. record { min = a i; max = b i; kind = c i; before = record { 0 = d i } }

module _ (s t : Table) (p : Known s) (q : Known t) where
  -- the direct predecessors are the same set, for none is at or above the count
  same-before : Alike s t → (k : ℕ) → k < length s → (task_of s k).before.0 ≡ (task_of t k).before.0
  unfolding linked
  same-before a k lt = same-set _ _ (λ u. grind (arith, nat_tests, a.links u k, p u k, q u k, a.count))

  pub alike-same : Alike s t → s ≡ t
  alike-same a =
      same_lists s t a.count (λ k d lt. get_or_default s k d blank lt
      ∙ same-tasks _ _ (a.least k lt) (a.most k lt) (a.kinds k lt) (same-before a k lt)
      ∙ get_or_default t k blank d (omega (arith, a.count)))

pub same-alike : (s t : Table) → s ≡ t → Alike s t
same-alike s t e = record { count = cc; least = λ k _. cc; most = λ k _. cc; kinds = λ k _. cc; links = λ a b _ _. cc }

-- so `==` finds the alike sheets
pub sheets_alike : (a b : Sheet) → IsTrue (sheet-eq.it a b) ↔ Alike (table a) (table b)
sheets_alike a b =
    Decides-like _ (λ e. same-alike _ _ (ap table e)) (λ h. same_tables a b (alike-same _ _ a.keeps.known b.keeps.known h)) (sheets_exact a b)
