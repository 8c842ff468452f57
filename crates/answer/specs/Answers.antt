-- The line that answers a file. Assumes nothing.
--     order_bytes o v       the bytes that tell an order and its total, without the closing one
--     fault_bytes f         those that tell a fault
--     most                  a sheet of more tasks is not planned: 16,384 cells are enough for up to 14
--     Shows m bytes         the bytes show the best order of what is made and its total, or why there is none
--     plan_bytes t o r      the bytes that tell what plan answers for the table t, where it leaves o in the order buffer
--     Told history b bytes  the bytes tell what `history::replay` answers for the history, under a standard book that holds b
--     Answers file bytes    the bytes answer the file
--     Answered ..           what writing the line of such bytes to the front of the memory answers and leaves
use Rattle.std.specs.Prelude.{◌≡◌, List, [], ◌∷◌, ◌++◌, ℕ, ◌^◌, ◌≤◌, ◌<◌, Result, Ok, Err, length}
use Rattle.book.specs.Standard.{Contents, worth_of}
use Rattle.common.specs.declared.refusal.Refusal.{Refusal}
use Rattle.common.specs.declared.refusal.Refusal.TheVariants.{Memory, NoOrder}
use Rattle.file.specs.Faults.{Figures, figures}
use Rattle.file.specs.Frames.{bytes_line, three, two}
use Rattle.file.specs.Loads.{Made, loaded}
use Rattle.file.specs.Saved.{Written}
use Rattle.file.specs.declared.fault.Fault.TheVariants.{Plan}
use Rattle.history.specs.Histories.{Replayed, resulting}
use Rattle.history.specs.declared.Call.{Call}
use Rattle.history.specs.declared.Call.TheVariants.{Load}
use Rattle.plan.specs.BestOrder.{BestOrder, answered}
use Rattle.plan.specs.Orders.{NoLawful, Order}
use Rattle.plan.specs.Totals.{Best, Runs, total}
use Rattle.sheet.specs.Tables.{Table}
use denote.Ref.{Bor}

abbrev pub order_bytes : Order → ℕ → List ℕ
order_bytes o v = 0x20 ∷ length o ∷ o ++ three v

abbrev pub fault_bytes : Figures → List ℕ
fault_bytes f = 0x2F ∷ f.layer ∷ f.cause ∷ two f.line

abbrev pub most : ℕ
most = 14

pub data Shows (m : Made) : List ℕ → Type 0 where
  -- there are too few cells
  cells : most < length m.tasks → Shows m (fault_bytes (figures (Plan Memory)))
  -- no order is lawful
  none : length m.tasks ≤ most → NoLawful m.tasks → Shows m (fault_bytes (figures (Plan NoOrder)))
  -- the best order and its total, which three bytes hold
  order : (o : Order) (v : ℕ) → length m.tasks ≤ most → Best (worth_of m.worths) m.tasks o → v ≡ total (worth_of m.worths) m.tasks o →
      Runs (worth_of m.worths) m.tasks o → v < 2 ^ 24 → Shows m (order_bytes o v)

abbrev pub plan_bytes : Table → (order' : List ℕ) → Result ℕ Refusal → List ℕ
plan_bytes t order' (Ok sum) = order_bytes (answered t order') sum
plan_bytes t order' (Err cause) = fault_bytes (figures (Plan cause))

pub record Told (history : List Call) (b : Contents) (bytes : List ℕ) : Type 0 where
  -- the memory that is lent, before and after, and the answer
  pub cells : List ℕ
  pub cells' : List ℕ
  pub buffer : List ℕ
  pub buffer' : List ℕ
  pub r : Result ℕ Refusal
  -- there are 16,384 cells and 14 bytes
  pub lent : (length cells ≡ 2 ^ most) × (length buffer ≡ most)
  -- all that `replay` promises
  pub best : BestOrder (worth_of b) (resulting history) cells buffer buffer' r
  pub leaves : Replayed (worth_of b) history cells cells' buffer buffer' r
  -- this is told,
  pub tells : bytes ≡ plan_bytes (resulting history) buffer' r
  -- and whatever else `replay` may answer with as much memory is told by the same bytes
  pub only : (c c' o o' : List ℕ) (s : Result ℕ Refusal) → length c ≡ length cells → length o ≡ length buffer →
      Replayed (worth_of b) history c c' o o' s → bytes ≡ plan_bytes (resulting history) o' s

-- of a file without a fault the best order is shown, and it is what is answered for the history that loads this file and no more
abbrev pub Answering : (file : List ℕ) → Result Made Figures → List ℕ → Type 0
Answering file (Ok m) bytes = Shows m bytes × ((f : Bor (List ℕ)) → f.now ≡ file → Told (Load f ∷ []) m.worths bytes)
Answering file (Err fault) bytes = bytes ≡ fault_bytes fault

abbrev pub Answers : (file bytes : List ℕ) → Type 0
Answers file bytes = Answering file (loaded file) bytes

-- the bytes answer each file that makes m; an inner function promises it
abbrev pub AnswersAll : (m : Made) (bytes : List ℕ) → Type 0
AnswersAll m bytes = (file : List ℕ) → loaded file ≡ Ok m → Answers file bytes

pub record Answered (file out out' : List ℕ) (r : Result ℕ Refusal) : Type 0 where
  pub bytes : List ℕ
  pub answers : Answers file bytes
  pub written : Written (bytes_line bytes) out out' r
