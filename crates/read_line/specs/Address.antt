-- Operands of the linked language that are symbols: a global or a constant of the pool, with a number added to its address, and the half of the address that
-- is meant. (LLVM, Machine IR (MIR) Format Reference Manual, "Target Flags", "Global Value Operands", "Constant Pool Index Operands".)
use Rattle.std.specs.Prelude.{zero, suc, ℤ, pos, negsuc, ◌^◌, Bool, true, false, nat_lt, if◌then◌else◌, List, ◌∷◌, Option, Some, None, ℕ}
use Rattle.mir_func.specs.rv64_instr.declared.symbol.Symbol.{Symbol}
use Rattle.mir_func.specs.rv64_instr.declared.symbol.Symbol.TheVariants.{Global, Constant}
use Rattle.mir_func.specs.rv64_instr.declared.symbol.Half.{Half}
use Rattle.mir_func.specs.rv64_instr.declared.symbol.Half.TheVariants.{Upper, Lower}
use Rattle.read_token.specs.declared.lexeme.Number.{Number}
use Rattle.read_token.specs.declared.lexeme.Number.TheVariants.{Fits}
use Rattle.read_token.specs.declared.lexeme.Word.TheVariants as words
use Rattle.read_token.specs.declared.lexeme.Lexeme.{Lexeme}
use Rattle.read_token.specs.declared.lexeme.Lexeme.TheVariants as lexemes
use Rattle.read_token.specs.Sentence.{symbol_name}
use Rattle.read_line.specs.declared.form.AddressForm.{AddressForm}
use Rattle.read_line.specs.declared.form.OperandForm.{OperandForm}
use Rattle.read_line.specs.declared.form.OperandForm.TheVariants as operands
use Rattle.read_line.specs.Read.{◌>>=◌}

-- the number behind `+`, if it fits 32 bits signed
abbrev pub added : Number → Option ℤ
added (Fits (pos n)) = if nat_lt n (2 ^ 31) then Some (pos n) else None
added number = None

-- the negative of the number behind `-`, if it fits 32 bits signed
abbrev pub taken : Number → Option ℤ
taken (Fits (pos zero)) = Some (pos 0)
taken (Fits (pos (suc n))) = if nat_lt n (2 ^ 31) then Some (negsuc n) else None
taken number = None

-- whether an integer that fits 64 bits is negative
abbrev pub is_negative : Number → Bool
is_negative (Fits (negsuc n)) = true
is_negative number = false

-- the number that a sign and an integer add, and the rest; none if the integer has a sign of its own
abbrev pub signed_at : Number → Option ℤ → List Lexeme → Option (Option (Option ℤ) × List Lexeme)
signed_at number addend ts = if is_negative number then None else Some (Some addend, ts)

-- `+ N`, `- N` or nothing behind a symbol, and the rest
abbrev pub addend_at : List Lexeme → Option (Option (Option ℤ) × List Lexeme)
addend_at (lexemes.Plus ∷ lexemes.Integer n ∷ ts) = signed_at n (added n) ts
addend_at (lexemes.Minus ∷ lexemes.Integer n ∷ ts) = signed_at n (taken n) ts
addend_at (lexemes.Plus ∷ ts) = None
addend_at (lexemes.Minus ∷ ts) = None
addend_at ts = Some (None, ts)

-- the number that is added to a symbol's address: 0 if none is written
abbrev pub addend_or_zero : Option (Option ℤ) → Option ℤ
addend_or_zero None = Some (pos 0)
addend_or_zero (Some addend) = addend

-- a symbol with the number that is added to its address
abbrev pub address_with : Symbol → Option (Option ℤ) → AddressForm
address_with symbol addend = record { symbol = symbol; addend = addend_or_zero addend }

-- an operand of a symbol without flags of a half: by its name if nothing is added to a global's address, else an address that code doesn't have
abbrev pub whole_address : Symbol → Option (Option ℤ) → OperandForm
whole_address (Global name) None = operands.Symbol name
whole_address (Global name) (Some addend) = operands.Address (address_with (Global name) (Some addend))
whole_address (Constant n) addend = operands.Address (address_with (Constant n) addend)

-- an operand of a symbol: a half of its address, or all of it
abbrev pub address_form : Option Half → Symbol → Option (Option ℤ) → OperandForm
address_form None symbol addend = whole_address symbol addend
address_form (Some half) symbol addend = operands.Part half (address_with symbol addend)

-- the same with the rest, from the lexemes behind the symbol
abbrev pub address_behind : Option Half → Symbol → List Lexeme → Option (OperandForm × List Lexeme)
address_behind half symbol ts = addend_at ts >>= λ addend. Some (address_form half symbol addend.0, addend.1)

-- an operand of a symbol or of a constant of the pool in the linked language, and the rest
abbrev pub address_at : List ℕ → Option Half → List Lexeme → Option (OperandForm × List Lexeme)
address_at line half (lexemes.Symbol t ∷ ts) = address_behind half (Global (symbol_name line t)) ts
address_at line half (lexemes.Constant n ∷ ts) = address_behind half (Constant n) ts
address_at line half ts = None

-- the half that the flags of an operand name, from the lexemes after their opening bracket (LLVM: `MO_HI`, `MO_LO`)
abbrev pub half_of : List Lexeme → Option Half
half_of (lexemes.Word words.HighPart t ∷ lexemes.Close ∷ ts) = Some Upper
half_of (lexemes.Word words.LowPart t ∷ lexemes.Close ∷ ts) = Some Lower
half_of ts = None
