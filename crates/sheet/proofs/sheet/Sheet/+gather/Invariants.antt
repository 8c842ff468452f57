use Rattle.sheet.proofs.Ancestors.{Gathered, ancestors}
use Rattle.sheet.specs.Links.{linked}
use Rattle.sheet.specs.Sheets.{table}
use Rattle.sheet.proofs.sheet.Sheet.+gather.Given as goal

abbrev pub decreases-gather : goal.decreases-gather
decreases-gather l = ancestors (table l.self.now) l.t

abbrev pub invariant-loop-p : goal.invariant-loop-p
invariant-loop-p l = Gathered (table l.self) (λ q. linked (table l.self) q l.t) l.initial.all.0 l.all.0 l.p
