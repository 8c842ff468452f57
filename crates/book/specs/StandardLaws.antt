-- The laws of the standard book: what it means is sound. No contract cites them. Assumes nothing.
use Rattle.book.specs.Lists.{weights_in}
use Rattle.book.specs.RampLaws.{ramps-sound}
use Rattle.book.specs.Standard.{contents, worth_of}
use Rattle.book.specs.StepLaws.{steps-sound}
use Rattle.book.specs.Weights.{weight_of}
use Rattle.book.specs.WorthLaws.{added-sound, weighed-sound}
use Rattle.book.specs.Worths.{Sound}
use Rattle.book.specs.declared.standard.StandardBook.{StandardBook}

pub standard-sound : (x : StandardBook) → Sound (worth_of (contents x))
standard-sound x =
    weighed-sound (weight_of (weights_in x.layers)) (added-sound (ramps-sound x.layers.inner.first) (steps-sound x.layers.inner.second))
