use Rattle.std.proofs.Common.{◌≡◌, arith}
use Rattle.std.proofs.lemmas.Grind.{common_steps}
use Rattle.common.specs.Refusals.{outcome}
use Rattle.row.proofs.Figures.{tells-more}
use Rattle.row.proofs.Laying.{next-may}
use Rattle.row.specs.Laid.{laid}
use Rattle.sheet.proofs.Rules.{sound-of}
use Rattle.sheet.proofs.Tables.{few-listed}
use Rattle.sheet.specs.Sheets.{table}
use Rattle.row.proofs.open.OpenRow.trial.Goals as goal
use Rattle.row.proofs.open.OpenRow.trial.Goals.{in-Ok, in-Err}

pub with-requires : goal.with-requires
with-requires g c =
    let x = c.args.self.now in
    let n : outcome c.judge.result ≡ 0 = grind (arith, common_steps) in
    (next-may (table x.sheet) (laid x) c.args.t (c.judge.ensures.accepted.0 n)).task

pub returns-clause-tells : goal.returns-clause-tells
returns-clause-tells g c none tells =
    let x = c.args.self.now in
    elim c.match-judge.branch [
      | in-Ok w ↦
          let n : outcome c.judge.result ≡ 0 = grind (arith, common_steps) in
          rw w.tally-is (tells-more (g.B.Book.meaning c.args.book.now) (table x.sheet) (g.met.B.Book.sound c.args.book.now) (sound-of x.sheet) (few-listed x.sheet.table) (laid x) c.args.t
          (c.judge.ensures.accepted.0 n) _ _ tells w.with.ensures)
      | in-Err w ↦ absurd (grind (arith, common_steps))
    ]
