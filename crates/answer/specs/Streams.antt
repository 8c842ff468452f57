-- From a reader to a writer. A reader has bytes left, by its `remaining`, and a writer holds bytes, by its `contents`. Either may be
-- unknown, as they are of the streams of the system, and then nothing is stated of them. Assumes nothing.
--     most_read                 so many bytes are read at most
--     IsRead left left' file    the file is what the reader gives: all that it has left, or so many bytes of it
--     IsLost left left'         the reader gave some bytes, no more than that
--     IsAnswer file line        the line answers the file
--     IsBegun held held' line   the writer took a front part of the line, and not all of it
--     Streamed ..               what answering a reader's file to a writer answers and leaves: the reader has `left` before and `left'`
--                               after, the writer holds `held` before and `held'` after
use Rattle.std.specs.Prelude.{◌≡◌, List, ℕ, ◌<◌, ◌≤◌, IfSome, Option, Some, Result, Ok, Err, drop, length, take}
use Rattle.std.specs.Io.KnownBytes.{Appends, Consumes, Keeps}
use Rattle.answer.specs.Answers.{Answers}
use Rattle.answer.specs.declared.stream.Failure.{Failure}
use Rattle.answer.specs.declared.stream.Failure.TheVariants.{Reading, Writing}
use Rattle.file.specs.Frames.{bytes_line}

-- one more than a file may have
abbrev pub most_read : ℕ
most_read = 65536

abbrev pub IsRead : (left left' : Option (List ℕ)) (file : List ℕ) → Type 0
IsRead left left' file =
    (length file ≤ most_read) × IfSome left (λ bytes. (file ≡ take most_read bytes) × (left' ≡ Some (drop most_read bytes)))

abbrev pub IsLost : (left left' : Option (List ℕ)) → Type 0
IsLost left left' = (lost : List ℕ) × (length lost ≤ most_read) × Consumes left left' lost

abbrev pub IsAnswer : (file line : List ℕ) → Type 0
IsAnswer file line = (bytes : List ℕ) × Answers file bytes × (line ≡ bytes_line bytes)

abbrev pub IsBegun : (held held' : Option (List ℕ)) (line : List ℕ) → Type 0
IsBegun held held' line = (n : ℕ) × (n < length line) × Appends held held' (take n line)

abbrev pub Streamed : {A : Type 0} → (left left' held held' : Option (List ℕ)) → Result A Failure → Type 0
-- the line that answers the file is written, and nothing else
Streamed left left' held held' (Ok done) =
    (file line : List ℕ) × IsRead left left' file × IsAnswer file line × Appends held held' line
-- nothing is written
Streamed left left' held held' (Err (Reading e)) = IsLost left left' × Keeps held held'
-- a front part of that line is written
Streamed left left' held held' (Err (Writing e)) =
    (file line : List ℕ) × IsRead left left' file × IsAnswer file line × IsBegun held held' line
