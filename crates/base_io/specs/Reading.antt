-- The result of reading a source to its end.
use Rattle.std.specs.Prelude.{◌≡◌, ℕ, ◌<◌, ◌≤◌, List, length, Result, Ok, Err}
use Rattle.base_io.specs.declared.reading.ReadError.{ReadError}
use Rattle.base_io.specs.declared.reading.ReadError.TheVariants.{Failed, TooLong, Memory}

-- the result for these bytes: all of them if they are within the limit, `TooLong` if they aren't; or a read failed,
-- or memory ran out
abbrev pub AnswersFor : List ℕ → ℕ → Result (List ℕ) ReadError → Type 0
AnswersFor left limit (Ok bytes) = (bytes ≡ left) × (length left ≤ limit)
AnswersFor left limit (Err TooLong) = limit < length left
AnswersFor left limit (Err Failed) = Unit {0}
AnswersFor left limit (Err Memory) = Unit {0}
