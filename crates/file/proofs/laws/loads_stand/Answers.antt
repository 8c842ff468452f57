use Rattle.file.proofs.Reloads.{one_load}
use Rattle.file.proofs.Stopping.{by_front, line_by_line}
use Rattle.file.proofs.laws.loads_stand.Goals as goal

pub returns-clause-by_line : goal.returns-clause-by_line
returns-clause-by_line c = line_by_line

pub returns-clause-by_front : goal.returns-clause-by_front
returns-clause-by_front c = by_front

pub returns-clause-one_load : goal.returns-clause-one_load
returns-clause-one_load c = one_load
