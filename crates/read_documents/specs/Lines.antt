-- The lines of a text.
use Rattle.std.specs.Prelude.{ℕ, ◌+◌, ◌-◌, ◌==◌, List, [], ◌∷◌, length, take}
use Rattle.std.specs.List.{suffix_len}
use Rattle.std.specs.Str.Lines.{lines}
use Rattle.read_lexer.specs.declared.line.Line.{Line}

-- a line without the spaces at its end
abbrev pub trimmed : List ℕ → List ℕ
trimmed text = take (length text - suffix_len (λ b. b == 32) text) text

-- lines without the spaces at their ends, numbered from `n`
abbrev pub numbered : ℕ → List (List ℕ) → List Line
numbered n [] = []
numbered n (text ∷ texts) = record { number = n; text = trimmed text } ∷ numbered (n + 1) texts

-- The lines of a text, numbered from 1. A line ends at LF, and one CR right before the LF belongs to the ending. Bytes after the last LF are one more line;
-- if there are none, there is no such line.
abbrev pub lines_of : List ℕ → List Line
lines_of text = numbered 1 (lines text)
