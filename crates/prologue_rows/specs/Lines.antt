-- The source positions for the rows of a function.
use Rattle.std.specs.Prelude.{ℕ, Bool, ◌&&◌, nat_eq, List, [], ◌∷◌, ◌++◌, map, take, drop}
use Rattle.std.specs.List.{prefix_len}
use Rattle.dwarf_line_table.specs.declared.scope_line.ScopeLine.{ScopeLine}
use Rattle.prologue_rows.specs.declared.words.SourceWord.{SourceWord}
use Rattle.prologue_rows.specs.Words.{at_line}

-- a word of the prologue: its block is the function's first
abbrev pub is_prologue : SourceWord → Bool
is_prologue w = nat_eq w.block 0

-- the words behind the prologue
abbrev pub body_of : List SourceWord → List SourceWord
body_of words = drop (prefix_len is_prologue words) words

-- a word of a block without a line
abbrev pub is_head : (block : ℕ) → SourceWord → Bool
is_head block w = nat_eq w.block block && nat_eq w.line 0

-- how many words at the front are in the block of the first one and have no line
abbrev pub head_len : List SourceWord → ℕ
head_len [] = 0
head_len (w ∷ words) = prefix_len (is_head w.block) (w ∷ words)

-- a word with another source position
abbrev pub with_line : ScopeLine → SourceWord → SourceWord
with_line line w = at_line w.address w.block line

-- the words behind the prologue, where those at the front without a line have the function's own source position
abbrev pub body_lines : (own : ScopeLine) → List SourceWord → List SourceWord
body_lines own body = map (with_line own) (take (head_len body) body) ++ drop (head_len body) body

-- the source positions for rows: first the function's own at its first address
abbrev pub lines_of : (own : ScopeLine) (base : ℕ) → List SourceWord → List SourceWord
lines_of own base words = at_line base 0 own ∷ body_lines own (body_of words)
