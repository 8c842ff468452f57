use Rattle.std.proofs.Common.{◌≡◌, ◌+◌, ◌%◌, length, sum}
use Rattle.file.specs.Lines.{bytes_of}
use Rattle.file.proofs.line.Parts.sum.Given as goal

-- what is summed and what is left make the sum of all
abbrev pub invariant-loop-digits : goal.invariant-loop-digits
invariant-loop-digits l = (l.sum + sum (bytes_of l.digits)) % 256 ≡ sum (bytes_of l.self.digits.now) % 256

abbrev pub decreases-loop-digits : goal.decreases-loop-digits
decreases-loop-digits l = length l.digits
