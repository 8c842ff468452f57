-- That equal tables, and equal sheets, are the same value, which `==` of each shows. No contract cites these proofs. Assumes nothing.
use Rattle.std.proofs.Common.{◌≡◌, ap, ◌==◌}
use Rattle.std.proofs.lemmas.Bool.Decides.{Decides-and, Decides-eqb, Decides-like}
use Rattle.std.specs.Prelude.{◌↔◌, IsTrue}
use Rattle.sheet.specs.contracts.sheet.Sheet as sheet
use Rattle.sheet.specs.contracts.sheet.SheetPartialEq.TheImpl.{eq-value as sheet-eq}
use Rattle.sheet.specs.contracts.table.Table as places
use Rattle.sheet.specs.contracts.table.TablePartialEq.TheImpl.{eq-value as places-eq}
use Rattle.sheet.specs.contracts.table.Task as task
use Rattle.sheet.specs.contracts.table.TaskExact.TheImpl.Laws.{exact-law}
use Rattle.sheet.specs.declared.sheet.Sheet.{Sheet}
use Rattle.sheet.specs.declared.table.Table.{Table}
use denote.Struct.Record.{values_one}
use lib.Pointwise.{pointwise_decides}

-- ---- a value is its fields

pub same-places : (s t : Table) → s.len ≡ t.len → s.tasks ≡ t.tasks → s ≡ t
same-places s t len tasks = values_one places.struct (places.the_propositions task.the_row.coded) s t (λ i. (len i, (tasks i, tt)))

pub same-sheets : (a b : Sheet) → a.table ≡ b.table → a ≡ b
same-sheets a b same = values_one sheet.struct (sheet.the_propositions places.the_row.coded) a b (ap (λ p. (p, tt)) same)

-- ---- `==` compares the fields

pub tables_exact : (s t : Table) → IsTrue (places-eq.it s t) ↔ (s ≡ t)
tables_exact s t =
    Decides-like _ (λ h. same-places s t h.0 h.1) (λ e. (ap (λ (p : Table). p.len) e, ap (λ (p : Table). p.tasks) e))
    (Decides-and (s.len == t.len) _ (Decides-eqb _ _) (pointwise_decides exact-law _ _))

pub sheets_exact : (a b : Sheet) → IsTrue (sheet-eq.it a b) ↔ (a ≡ b)
sheets_exact a b = Decides-like _ (same-sheets a b) (ap (λ (s : Sheet). s.table)) (tables_exact a.table b.table)
