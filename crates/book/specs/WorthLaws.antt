-- What is layered over sound books is sound. No contract cites these proofs. Assumes nothing.
use Rattle.std.proofs.Common.{ap, ◌∙◌, mul-le-mul_left, mul-zero, arith, ℕ, ◌*◌, min}
use Rattle.book.specs.Worths.{Layered, Meaning, Sound, added, one, sum, top, weighed, weight}

pub added-sound : {m n : Meaning} → Sound m → Sound n → Sound (added m n)
added-sound p q =
    record {
      bounded = λ task at. omega arith;
      falls = λ task a b h. omega (arith, p.falls task a b h, q.falls task a b h);
      bare = λ task at h. omega (arith, p.bare task at h, q.bare task at h);
    }

pub weighed-sound : {m : Meaning} (w : ℕ → ℕ) → Sound m → Sound (weighed w m)
weighed-sound {m} w p =
    record {
      bounded = λ task at. omega arith;
      falls = λ task a b h. omega (arith, mul-le-mul_left (w task) (p.falls task a b h));
      bare = λ task at h. ap (λ x. min top (w task * x)) (p.bare task at h) ∙ ap (min top) (mul-zero (w task));
    }

pub layered_sound : {m : Meaning} → Layered m → Sound m
layered_sound (one p) = p
layered_sound (sum p q) = added-sound (layered_sound p) (layered_sound q)
layered_sound (weight w p) = weighed-sound w (layered_sound p)
