-- Which table follows from a history, as a relation: call by call, by what each call does. What a file means is taken from the
-- page `Loads` of `file`, which reads it line by line. Assumes nothing.
--     Turns t call t'      the call turns the table t into t'
--     Follows t calls t'   the calls, one after another, turn the table t into t'
use Rattle.std.specs.Prelude.{◌≡◌, List, [], ◌∷◌, ℕ, MatchResult}
use Rattle.file.specs.Loads.{loaded}
use Rattle.history.specs.declared.Call.{Call}
use Rattle.history.specs.declared.Call.TheVariants.{Sheet, Load, Plan}
use Rattle.sheet.specs.Effects.{Does}
use Rattle.sheet.specs.Tables.{Table}

abbrev pub Turns : Table → Call → Table → Type 0
-- for some number n, a call on the sheet answers n and leaves t'
Turns t (Sheet call) t' = (n : ℕ) × Does t call n t'
-- a load makes the table of the file's sheet, or leaves the table where the file has a fault
Turns t (Load file) t' = MatchResult (loaded file.now) (λ m. t' ≡ m.tasks) (λ fault. t' ≡ t)
-- a plan leaves the table
Turns t (Plan n k) t' = t' ≡ t

pub data Follows : Table → List Call → Table → Type 0 where
  -- no call leaves the table
  none : {t : Table} → Follows t [] t
  -- the first call, and then the others
  more : {t t' t'' : Table} {call : Call} {calls : List Call} → Turns t call t' → Follows t' calls t'' → Follows t (call ∷ calls) t''
