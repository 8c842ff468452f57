-- Frames whose calls are accepted one after another. Assumes nothing.
use Rattle.std.proofs.Common.{◌≡◌, refl, sym, subst, List, [], ◌∷◌, ◌++◌, ℕ, zero, suc, ◌<◌, arith}
use Rattle.file.specs.Frames.{Frame}
use Rattle.file.specs.Loads.{Made, after, call_of, verdict}
use Rattle.file.specs.Saved.{each}

-- each of the calls is accepted, and they make m' of m
abbrev pub Goes : Made → List Frame → Made → Type 0
Goes m [] m' = m ≡ m'
Goes m (f ∷ fs) m' = (verdict m (call_of f) ≡ 0) × Goes (after m (call_of f)) fs m'

pub goes-append : (m m' m'' : Made) (fs gs : List Frame) → Goes m fs m' → Goes m' gs m'' → Goes m (fs ++ gs) m''
goes-append m m' m'' [] gs first then = subst (λ x. Goes x gs m'') (sym first) then
goes-append m m' m'' (f ∷ fs) gs first then = (first.0, goes-append (after m (call_of f)) m' m'' fs gs first.1 then)

-- one call, and then the others
pub goes-on : (m m' m'' : Made) (f : Frame) (fs : List Frame) → verdict m (call_of f) ≡ 0 → after m (call_of f) ≡ m' → Goes m' fs m'' → Goes m (f ∷ fs) m''
goes-on m m' m'' f fs accepted made rest = (accepted, subst (λ x. Goes x fs m'') (sym made) rest)

-- number by number
pub goes-each : (n : ℕ) (f : ℕ → List Frame) (at : ℕ → Made) → ((k : ℕ) → k < n → Goes (at k) (f k) (at (suc k))) → Goes (at 0) (each n f) (at n)
unfolding each
goes-each zero f at each-goes = refl
goes-each (suc n) f at each-goes =
    goes-append (at 0) (at n) (at (suc n)) (each n f) (f n) (goes-each n f at (λ k lt. each-goes k (omega (arith, lt)))) (each-goes n (omega arith))
