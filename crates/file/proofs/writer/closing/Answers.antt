use Rattle.std.proofs.Common.{◌≡◌, ◌∙◌, List, [], ◌∷◌, ℕ, ◌+◌, ◌%◌, ◌<◌, arith, rules, sum, tests}
use Rattle.std.proofs.lemmas.Iterator.{YieldsList-from_slice}
use Rattle.std.proofs.lemmas.Iterator.Consumers.{fold_from_yields_List}
use Rattle.std.proofs.lemmas.List.Sums.{sum_by-cons}
use Rattle.std.specs.List.{fold}
use Rattle.file.proofs.writer.closing.Goals as goal

wrapped : (s : ℕ) (bytes : List ℕ) → s < 256 → fold (λ a x. (a + x) % 256) s bytes ≡ (s + sum bytes) % 256
wrapped s [] small = omega arith
wrapped s (b ∷ bytes) small = wrapped ((s + b) % 256) bytes (omega arith) ∙ omega (arith, sum_by-cons (λ x. x) b bytes)

pub returns : goal.returns
returns c =
    let all = fold_from_yields_List _ (λ a x. (a + x) % 256) 0 _ c.fold.ensures.ran (YieldsList-from_slice c.args.bytes.now cc) (λ a x b q k. search (rules, tests)) in
    omega (arith, wrapped 0 c.args.bytes.now (omega arith))
