-- Weights: that of each task, and what the call that sets one answers and leaves. Assumes nothing.
--     weight_of ws k    the weight of task k
--     WeightFits k w    what an accepted call that sets a weight keeps
use Rattle.std.specs.Prelude.{not, ◌&&◌, List, [], ◌∷◌, ◌≡◌, ℕ, ◌≤◌, ◌<◌, nat_le, slice_index_or, replicate, if◌then◌else◌, ◌==◌}
use Rattle.common.specs.Refusals.{Rows, number}
use Rattle.common.specs.declared.refusal.Refusal.TheVariants.{UnknownTask, BookRule}

-- the weight of task k; 1 past the end
abbrev pub weight_of : List ℕ → ℕ → ℕ
weight_of ws k = slice_index_or ws k 1

abbrev pub all_one : List ℕ
all_one = replicate 16 1

-- the refusals that setting a weight may get
abbrev pub weight_rows : (k w : ℕ) → Rows
weight_rows k w = (nat_le 16 k, number UnknownTask) ∷ (not (nat_le 1 w && nat_le w 16), number BookRule) ∷ []

-- the call that sets the weight of task k to w is accepted only within these limits
pub record WeightFits (k w : ℕ) : Type 0 where
  pub known : k < 16
  pub some : 1 ≤ w
  pub light : w ≤ 16

-- the call that answers n turns the weights ws into ws': where it is accepted, task k has the new weight; every other stays
abbrev pub Reweighed : (ws ws' : List ℕ) (k w n : ℕ) → Type 0
Reweighed ws ws' k w n = (task : ℕ) → weight_of ws' task ≡ (if n == 0 && task == k then w else weight_of ws task)
