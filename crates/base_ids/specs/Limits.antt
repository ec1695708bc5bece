-- The limits of numbers.
use Rattle.std.specs.Prelude.{ℕ, ◌-◌, nat_le, if◌then◌else◌}

-- the greatest number that may name an entity in a text, and the greatest size of a stack object, in bytes: 2^30 -
-- 1
abbrev pub MAX_NUMBER : ℕ
MAX_NUMBER = 1073741823

-- the greatest offset of a frame slot from the stack pointer, in bytes: the last eight bytes of the greatest frame
abbrev pub MAX_OFFSET : ℕ
MAX_OFFSET = 2024

-- Stack entries and fixed stack objects have one numbering: N for `%stack.N`, and for `%fixed-stack.N` N above this.
abbrev pub FIXED : ℕ
FIXED = 2147483648

-- the N of the text of a stack entry or of a fixed stack object
abbrev pub text_number : ℕ → ℕ
text_number n = if nat_le FIXED n then n - FIXED else n
