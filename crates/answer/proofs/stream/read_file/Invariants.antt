-- What is kept is what the reader gave, and there is memory for all of it.
use Rattle.std.proofs.Common.{◌≤◌, length, vec_capacity}
use Rattle.std.specs.Io.KnownBytes.{Consumes}
use Rattle.answer.specs.Streams.{most_read}
use Rattle.answer.proofs.stream.read_file.Given as goal

abbrev pub invariant-loop : goal.invariant-loop
invariant-loop g l = record {
  room : most_read ≤ vec_capacity l.file;
  within : length l.file.items ≤ most_read;
  gave : Consumes (g.R.Read.remaining l.initial.reader) (g.R.Read.remaining l.reader) l.file.items;
}
