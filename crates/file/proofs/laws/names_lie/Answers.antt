use Rattle.file.proofs.Places.{counted, named}
use Rattle.file.proofs.laws.names_lie.Goals as goal

pub returns-clause-named : goal.returns-clause-named
returns-clause-named c = named

pub returns-clause-counted : goal.returns-clause-counted
returns-clause-counted c = counted
