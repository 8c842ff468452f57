use Rattle.std.proofs.Common.{◌≡◌, ◌∙◌, ap, ℕ, ◌-◌, ◌/◌, arith, length, rules, take}
use Rattle.file.specs.Frames.{decoded}
use Rattle.file.proofs.Bytes.{front_is}
use Rattle.file.proofs.line.Parts.frame.Goals as goal

pub returns : goal.returns
returns c =
    let found = c.in_ok-get.ensures.lookup.0 in
    let n = length c.args.self.now.digits.now / 2 in
    let all : n - 0 ≡ n = omega arith in
    c.of.ensures ∙ ap decoded (found.2 ∙ ap (λ (k : ℕ). take k c.first-first.result) all
    ∙ front_is _ _ found.1 (search rules) c.first-first.ensures)
