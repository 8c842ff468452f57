use Rattle.std.proofs.Common.{sym, subst, ◌<◌, ◌++◌, ◌∷◌, [], ◌+◌, ℕ, drop, take, arith, length, get_or, List}
use Rattle.std.proofs.lemmas.List.{take-append-drop, take_more}
use Rattle.row.proofs.Figures.{tells-more}
use Rattle.row.proofs.Laying.{front, next-may}
use Rattle.row.specs.Rows.{Leads}
use Rattle.row.specs.Tallies.{Tells}
use Rattle.sheet.proofs.Rules.{sound-of}
use Rattle.sheet.proofs.Tables.{few-listed}
use Rattle.sheet.specs.Sheets.{table}
use Rattle.sheet.specs.Tables.{Table}
use Rattle.row.proofs.tally.Tally.of.Goals as goal

-- the order up to here, and with the task here
module _ (t : Table) (order : List ℕ) (i : ℕ) (lt : i < length order) (leads : Leads t order) where
  more : Leads t (take i order ++ get_or order i 0 ∷ [])
  more = subst (Leads t) (take_more order i 0 lt) (front t (take (i + 1) order) (drop (i + 1) order) (subst (Leads t) (sym (take-append-drop (i + 1) order)) leads))

pub with-tally-requires : goal.with-tally-requires
with-tally-requires g c =
    let t = table c.args.sheet.now in
    (next-may t _ _ (more t c.args.order.now c.loop-t.t-index (omega (arith, c.loop-t-test.true, c.loop-t.auto.t-index-end)) c.requires)).task

pub loop-t-preserved : goal.loop-t-preserved
loop-t-preserved g c =
    let s = c.args.sheet.now in
    let m = g.B.Book.meaning c.args.book.now in
    let lt : c.loop-t.t-index < length c.args.order.now = omega (arith, c.loop-t-test.true, c.loop-t.auto.t-index-end) in
    subst (λ row. Tells m (table s) row c.with-tally.result) (sym (take_more c.args.order.now c.loop-t.t-index 0 lt))
    (tells-more m (table s) (g.met.B.Book.sound c.args.book.now) (sound-of s) (few-listed s.table) _ _ (more (table s) c.args.order.now c.loop-t.t-index lt c.requires) _ _ c.loop-t.invariant c.with-tally.ensures)
