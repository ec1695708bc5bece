-- Quoted texts. (LLVM Language Reference Manual, "Identifiers": `\xx` is the byte with that hexadecimal code.)
use Rattle.std.specs.Prelude.{ℕ, zero, suc, ◌+◌, ◌*◌, ◌-◌, Bool, ◌&&◌, ◌==◌, not, if◌then◌else◌, is_some, unwrap_or, length, take, slice_range, List, [], ◌∷◌}
use Rattle.std.specs.Prelude.{Option, Some, None}
use Rattle.std.specs.List.{prefix_len}
use Rattle.std.specs.Char.{digit_value, is_ascii_hexdigit}

-- the byte of an escape at the front: `\` and two hexadecimal digits
abbrev pub escape : List ℕ → Option ℕ
escape (a ∷ b ∷ c ∷ bs) = if a == 92 && (is_ascii_hexdigit b && is_ascii_hexdigit c) then Some (16 * digit_value b + digit_value c) else None
escape bs = None

-- A text with escapes replaced by their bytes, without the first `skip` bytes, which belong to an escape that began before. A backslash without two
-- hexadecimal digits after it is kept.
unfoldable pub unescaped_behind : ℕ → List ℕ → List ℕ
unescaped_behind skip [] = []
unescaped_behind (suc skip) (b ∷ bs) = unescaped_behind skip bs
unescaped_behind zero (b ∷ bs) = unwrap_or (escape (b ∷ bs)) b ∷ unescaped_behind (if is_some (escape (b ∷ bs)) then 2 else 0) bs

-- a text with escapes replaced by their bytes
abbrev pub unescaped : List ℕ → List ℕ
unescaped text = unescaped_behind 0 text

-- a byte other than 0
abbrev pub is_not_zero : ℕ → Bool
is_not_zero b = not (b == 0)

-- bytes up to the first zero byte
abbrev pub before_zero : List ℕ → List ℕ
before_zero bytes = take (prefix_len is_not_zero bytes) bytes

-- the value of a quoted text: with escapes replaced by their bytes, up to the first zero byte
abbrev pub text_value : List ℕ → List ℕ
text_value text = before_zero (unescaped text)

-- a text without the quotes around it
abbrev pub inside_quotes : List ℕ → List ℕ
inside_quotes text = slice_range text 1 (length text - 1)
