-- Entries about a sheet, a standard book and sheet files, each with its answer. Assumes nothing.
--     right t b e         the entry e, on the table t and the contents b of the book, has the answer that it must have
--     next t e            the table after it, also where a call is refused
--     next_book b e       the contents of the book after it
--     all_right t b es    each of the entries es has it, one after another from t and b
--     each_right sheets   the entries of each worked sheet have it, from a new sheet and a new book on
use denote.Ref.{Bor}
use Rattle.std.specs.Prelude.{◌≡◌, ℕ, ◌*◌, Bool, true, false, not, ◌&&◌, List, [], ◌∷◌, pos, Some, None, Decides, Option, ◌==◌, bytes_eq, int_lt, is_none, length, nat_le, nat_lt, option_map, sum_by}
use Rattle.std.specs.Bool.{beq}
use Rattle.std.specs.List.{list_all}
use Rattle.std.specs.Option.{option_eq}
use Rattle.std.specs.Ordering.{int_eq}
use Rattle.book.specs.Keenest.{Keenest as BookKeenest, effort, soft}
use Rattle.book.specs.Standard.{Contents, nothing, worth_of}
use Rattle.book.specs.Worths.{Meaning}
use Rattle.sheet.specs.Links.{linked, up}
use Rattle.sheet.specs.Margins.{margin_of, Fits as SheetFits, Tightest as SheetTightest}
use Rattle.common.specs.Ranks.{or_absent}
use Rattle.common.specs.Refusals.{outcome}
use Rattle.common.specs.Sets.{any}
use Rattle.sheet.specs.Tables.{Table, expected_of, task_of}
use Rattle.common.specs.declared.ticks.Margin.{Margin}
use Rattle.known.specs.declared.entry.Entry.{Entry}
use Rattle.known.specs.declared.entry.Entry.TheVariants.{OnSheet, OnBook, Linked, Expected, Above, Margin as MarginIs, Fits, Tightest, Worth, Keenest, Best, NoOrder, Cell, Place, Finish, Tally, Saved, Frames, Refused, Note, Names, Answer}
use Rattle.file.specs.Lines.{pieces}
use Rattle.file.specs.Loads.{loaded}
use Rattle.file.specs.Readings.{note_now, reading}
use Rattle.file.specs.Saved.{saved}
use Rattle.known.specs.Answers.{is_answer}
use Rattle.known.specs.Files.{all_names, all_read, all_refused, is_noted}
use Rattle.plan.specs.Tests.{is_best, is_cell, none_lawful}
use Rattle.known.specs.Rows.{is_first, is_judged, leads}
use Rattle.plan.specs.Orders.{expected, maximum}
use Rattle.plan.specs.Totals.{total}
use Rattle.row.specs.Rows.{set_of}
use Rattle.book.specs.Standard as book
use Rattle.sheet.specs.Calls as sheet

-- the one margin is smaller than the other; any is smaller than none
abbrev pub smaller : Option Margin → Option Margin → Bool
smaller = or_absent (λ x y. int_lt x.0 y.0)

-- task k has a margin, none is smaller, and it is smaller than that of each lower number
abbrev pub is_tightest : Table → ℕ → Bool
is_tightest t k =
    not (is_none (margin_of t k)) && (not (any (length t) (λ u. smaller (margin_of t u) (margin_of t k))) && not (any k (λ u. not (smaller (margin_of t k) (margin_of t u)))))

-- no margin is below 0
abbrev pub all_met : Table → Bool
all_met t = not (any (length t) (λ k. smaller (margin_of t k) (Some (record { 0 = pos 0 }))))

abbrev pub none_hard : Table → Bool
none_hard t = not (any (length t) (λ k. not (is_none (margin_of t k))))

-- task k is soft, no soft task has a greater fraction of worth at time 0 and effort, and each lower-numbered one has a smaller
abbrev pub is_keenest : Meaning → Table → ℕ → Bool
is_keenest m t k =
    soft t k && (not (any (length t) (λ u. soft t u && nat_lt (m k 0 * effort t u) (m u 0 * effort t k))) && not (any k (λ u. soft t u && nat_le (m k 0 * effort t u) (m u 0 * effort t k))))

abbrev pub none_soft : Table → Bool
none_soft t = not (any (length t) (soft t))

-- these tests, which compute, find exactly what the definitions say
pub record Tests (t : Table) : Type 0 where
  pub fits : Decides (all_met t) (SheetFits t)
  pub tightest : (k : ℕ) → Decides (is_tightest t k) (SheetTightest t k)
  pub none_tight : Decides (none_hard t) ((k : ℕ) → margin_of t k ≡ None)
  pub keenest : (m : Meaning) (k : ℕ) → Decides (is_keenest m t k) (BookKeenest m t k)
  pub none_keen : Decides (none_soft t) ((k : ℕ) → soft t k ≡ false)

abbrev pub right : Table → Contents → Entry → Bool
right t b (OnSheet call answer) = sheet.verdict t call == outcome answer
right t b (OnBook call answer) = book.verdict b call == outcome answer
right t b (Linked x y answer) = beq (linked t x y) answer
right t b (Expected k answer) = expected_of (task_of t k) == answer
right t b (Above k u answer) = beq (up t u k) answer
right t b (MarginIs k answer) = option_eq int_eq (option_map (λ m. m.0) (margin_of t k)) answer
right t b (Fits answer) = beq (all_met t) answer
right t b (Tightest (Some k)) = is_tightest t k
right t b (Tightest None) = none_hard t
right t b (Worth k at answer) = worth_of b k at == answer
right t b (Keenest (Some k)) = is_keenest (worth_of b) t k
right t b (Keenest None) = none_soft t
right t b (Best o v) = is_best (worth_of b) t o.now v
right t b NoOrder = none_lawful t
right t b (Cell s v) = is_cell (worth_of b) t s v
right t b (Place row k answer) = leads t row.now && is_judged t row.now k (outcome answer)
right t b (Finish row o v) = is_first t row.now o.now && total (worth_of b) t o.now == v
right t b (Tally row s e m v) =
    leads t row.now && (set_of row.now == s && (sum_by (expected t) row.now == e && (sum_by (maximum t) row.now == m && total (worth_of b) t row.now == v)))
right t b (Saved text) = bytes_eq (saved t b) text.now
right t b (Frames file fs) = all_read (pieces file.now) fs.now
right t b (Refused file e) = all_refused (pieces file.now) e
right t b (Note line answer) = is_noted (note_now answer) (reading line.now)
right t b (Names file names answer) = bytes_eq (all_names file.now names.now) answer.now
right t b (Answer file line) = is_answer (loaded file.now) line.now

abbrev pub next : Table → Entry → Table
next t (OnSheet call answer) = sheet.after t call
next t other = t

abbrev pub next_book : Contents → Entry → Contents
next_book b (OnBook call answer) = book.after b call
next_book b other = b

abbrev pub all_right : Table → Contents → List Entry → Bool
all_right t b [] = true
all_right t b (e ∷ es) = right t b e && all_right (next t e) (next_book b e) es

abbrev pub each_right : List (Bor (List Entry)) → Bool
each_right = list_all (λ entries. all_right [] nothing entries.now)
