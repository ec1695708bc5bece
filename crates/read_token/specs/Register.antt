-- Tokens that begin with `$` or `%`. (LLVM, Machine IR (MIR) Format Reference Manual, "Register Operands" and "Virtual Registers"; RISC-V registers are x0
-- to x31.)
use Rattle.std.specs.Prelude.{ℕ, ◌+◌, ◌-◌, ◌*◌, ◌&&◌, ◌==◌, nat_le, nat_lt, if◌then◌else◌, codes, List, [], ◌∷◌, Option, Some, None}
use Rattle.std.specs.Char.{is_ascii_digit}
use Rattle.std.specs.Str.{bytes_eq}
use Rattle.read_token.specs.declared.lexeme.RegisterName.{RegisterName}
use Rattle.read_token.specs.declared.lexeme.RegisterName.TheVariants.{Physical, Absent, Other, Virtual}
use Rattle.read_token.specs.declared.lexeme.Lexeme.{Lexeme}
use Rattle.read_token.specs.declared.lexeme.Lexeme.TheVariants as lexemes
use Rattle.read_token.specs.Number.{limited, is_number}
use Rattle.read_token.specs.Word.{case_of, named_number}

-- the number of a register spelled with two digits, the first of which isn't 0
abbrev pub two_digits : ℕ → ℕ → Option ℕ
two_digits c d = if (nat_le 49 c && nat_le c 51 && is_ascii_digit d) && nat_lt (10 * (c - 48) + (d - 48)) 32 then Some (10 * (c - 48) + (d - 48)) else None

-- the N of `$xN`, from 0 to 31 without leading zeros
abbrev pub physical_of : List ℕ → Option ℕ
physical_of (a ∷ b ∷ d ∷ []) = if (a == 36 && b == 120) && is_ascii_digit d then Some (d - 48) else None
physical_of (a ∷ b ∷ c ∷ d ∷ []) = if a == 36 && b == 120 then two_digits c d else None
physical_of text = None

-- the register named by a token that begins with `$`
unfoldable pub register_of : List ℕ → RegisterName
register_of text = case_of (physical_of text) Physical (if bytes_eq text (codes "$noreg") then Absent else Other)

-- a virtual register, from the text after `%`
abbrev pub virtual_of : List ℕ → Lexeme
virtual_of text = if is_number text then lexemes.Register (Virtual (limited text)) else lexemes.Other

-- a stack entry, from the text after `%stack.`
abbrev pub slot_of : List ℕ → Lexeme
slot_of text = case_of (named_number text) lexemes.Slot lexemes.Other

-- a block, from the text after `%bb.`
abbrev pub block_operand_of : List ℕ → Lexeme
block_operand_of text = case_of (named_number text) lexemes.Block lexemes.Other

-- the text after `stack.`
abbrev pub behind_stack : List ℕ → Option (List ℕ)
behind_stack (a ∷ b ∷ c ∷ d ∷ e ∷ f ∷ bs) = if a == 115 && b == 116 && c == 97 && d == 99 && e == 107 && f == 46 then Some bs else None
behind_stack text = None

-- a fixed stack object, from the text after `%fixed-stack.`: it has no name
abbrev pub fixed_of : List ℕ → Lexeme
fixed_of text = if is_number text then lexemes.Fixed (limited text) else lexemes.Other

-- a constant of the function's constant pool, from the text after `%const.`
abbrev pub constant_of : List ℕ → Lexeme
constant_of text = if is_number text then lexemes.Constant (limited text) else lexemes.Other

-- the text after `fixed-stack.`
abbrev pub behind_fixed : List ℕ → Option (List ℕ)
behind_fixed (a ∷ b ∷ c ∷ d ∷ e ∷ f ∷ bs) = if a == 102 && b == 105 && c == 120 && d == 101 && e == 100 && f == 45 then behind_stack bs else None
behind_fixed text = None

-- the text after `const.`
abbrev pub behind_const : List ℕ → Option (List ℕ)
behind_const (a ∷ b ∷ c ∷ d ∷ e ∷ f ∷ bs) = if a == 99 && b == 111 && c == 110 && d == 115 && e == 116 && f == 46 then Some bs else None
behind_const text = None

-- the text after `bb.`
abbrev pub behind_bb : List ℕ → Option (List ℕ)
behind_bb (a ∷ b ∷ c ∷ bs) = if a == 98 && b == 98 && c == 46 then Some bs else None
behind_bb text = None

-- a fixed stack object, a constant, or a virtual register, from the text after `%`
abbrev pub numbered_of : List ℕ → Lexeme
numbered_of text = case_of (behind_fixed text) fixed_of (case_of (behind_const text) constant_of (virtual_of text))

-- the lexeme of a token that begins with `%`, from the text after that
unfoldable pub percent_behind : List ℕ → Lexeme
percent_behind text = case_of (behind_stack text) slot_of (case_of (behind_bb text) block_operand_of (numbered_of text))

-- the lexeme of a token that begins with `%`
abbrev pub percent_of : List ℕ → Lexeme
percent_of [] = lexemes.Other
percent_of (b ∷ bs) = percent_behind bs
