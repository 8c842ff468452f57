use Rattle.std.proofs.Common.{rules, arith, ◌≡◌, ◌<◌, get_or}
use Rattle.common.proofs.Made.{made_same}
use Rattle.file.specs.Lines.{bytes_of}
use Rattle.file.proofs.line.Parts.first.Goals as goal

pub returns : goal.returns
returns c =
    made_same _ (λ k y. k < 12 → y ≡ get_or (bytes_of c.args.self.now.digits.now) k 0) _ 12 (λ i y f' low call. search rules) _ 0 c.from_fn.ensures.items (λ k ge lt. absurd (omega (arith, ge, lt)))
