use Rattle.file.proofs.Again.{saved_read}
use Rattle.file.proofs.Lengths.{saved-short}
use Rattle.file.proofs.laws.saved_reads.Goals as goal

pub returns-clause-reads : goal.returns-clause-reads
returns-clause-reads c = saved_read c.args.sheet.now c.args.book.now

pub returns-clause-short : goal.returns-clause-short
returns-clause-short c = saved-short c.args.sheet.now c.args.book.now
