use Rattle.history.proofs.Following.{follows}
use Rattle.history.proofs.laws.histories_stand.Goals as goal

pub returns : goal.returns
returns c history t = follows history t
