use Rattle.file.proofs.Reloads.{loads_only, saved_loads}
use Rattle.file.proofs.laws.saved_loads.Goals as goal

pub returns-clause-loads : goal.returns-clause-loads
returns-clause-loads c = saved_loads c.args.sheet.now c.args.book.now

pub returns-clause-only : goal.returns-clause-only
returns-clause-only c = loads_only c.args.sheet.now c.args.book.now
