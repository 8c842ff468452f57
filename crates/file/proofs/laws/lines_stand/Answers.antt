use Rattle.file.proofs.Coding.{decoded-encoded}
use Rattle.file.proofs.Cuts.{one_cutting}
use Rattle.file.proofs.Sayings.{decoded_only, one_reading, one_saying, read_back}
use Rattle.file.proofs.laws.lines_stand.Goals as goal

pub returns-clause-one_cutting : goal.returns-clause-one_cutting
returns-clause-one_cutting c = one_cutting

pub returns-clause-one_reading : goal.returns-clause-one_reading
returns-clause-one_reading c = one_reading

pub returns-clause-decoded_back : goal.returns-clause-decoded_back
returns-clause-decoded_back c = decoded-encoded

pub returns-clause-decoded_only : goal.returns-clause-decoded_only
returns-clause-decoded_only c = decoded_only

pub returns-clause-read_back : goal.returns-clause-read_back
returns-clause-read_back c = read_back

pub returns-clause-one_saying : goal.returns-clause-one_saying
returns-clause-one_saying c = one_saying
