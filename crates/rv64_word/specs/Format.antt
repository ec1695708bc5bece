-- The formats of words, one table for encoding and decoding (RISC-V Unprivileged ISA, RV32I, "Base Instruction Formats"
-- and "Immediate Encoding Variants"; RV64I, "Integer Register-Immediate Instructions" for the shifts).
use Rattle.std.specs.Prelude.{ℕ, suc, ◌+◌, ◌-◌, ◌*◌, ◌/◌, ◌%◌, ◌^◌, ℤ, pos, ◌-ℤ◌, Bool, true, false, cond, if◌then◌else◌, nat_lt, List, [], ◌∷◌, fold, sum_by}
use Rattle.rv64_word.specs.declared.format.EncodingField.{EncodingField}
use Rattle.rv64_word.specs.declared.format.EncodingField.TheVariants.{Opcode, Rd, Funct3, Rs1, Rs2, Funct7, Imm}
use Rattle.rv64_word.specs.declared.format.Slice.{Slice}
use Rattle.rv64_word.specs.declared.format.Format.{Format}
use Rattle.rv64_word.specs.declared.format.Format.TheVariants.{Register, Immediate, Shift, WordShift, Store, Branch, Upper, Jump}

-- the bits of a field from `high` down to `low`, both included
abbrev pub bits : EncodingField → (high low : ℕ) → Slice
bits field high low = record { field = field; low = low; width = suc high - low }

-- the slices of a format's words, from bit 31 down to bit 0
abbrev pub slices_of : Format → List Slice
slices_of Register = bits Funct7 6 0 ∷ bits Rs2 4 0 ∷ bits Rs1 4 0 ∷ bits Funct3 2 0 ∷ bits Rd 4 0 ∷ bits Opcode 6 0 ∷ []
slices_of Immediate = bits Imm 11 0 ∷ bits Rs1 4 0 ∷ bits Funct3 2 0 ∷ bits Rd 4 0 ∷ bits Opcode 6 0 ∷ []
slices_of Shift = bits Funct7 6 1 ∷ bits Imm 5 0 ∷ bits Rs1 4 0 ∷ bits Funct3 2 0 ∷ bits Rd 4 0 ∷ bits Opcode 6 0 ∷ []
slices_of WordShift = bits Funct7 6 0 ∷ bits Imm 4 0 ∷ bits Rs1 4 0 ∷ bits Funct3 2 0 ∷ bits Rd 4 0 ∷ bits Opcode 6 0 ∷ []
slices_of Store = bits Imm 11 5 ∷ bits Rs2 4 0 ∷ bits Rs1 4 0 ∷ bits Funct3 2 0 ∷ bits Imm 4 0 ∷ bits Opcode 6 0 ∷ []
slices_of Branch = bits Imm 12 12 ∷ bits Imm 10 5 ∷ bits Rs2 4 0 ∷ bits Rs1 4 0 ∷ bits Funct3 2 0 ∷ bits Imm 4 1 ∷ bits Imm 11 11 ∷ bits Opcode 6 0 ∷ []
slices_of Upper = bits Imm 19 0 ∷ bits Rd 4 0 ∷ bits Opcode 6 0 ∷ []
slices_of Jump = bits Imm 20 20 ∷ bits Imm 10 1 ∷ bits Imm 11 11 ∷ bits Imm 19 12 ∷ bits Rd 4 0 ∷ bits Opcode 6 0 ∷ []

-- the bits of a value that a slice has
abbrev pub bits_of : Slice → ℕ → ℕ
bits_of s value = value / 2 ^ s.low % 2 ^ s.width

-- the number that slices encode, the first one highest, by the value of each field
abbrev pub spelled : List Slice → (EncodingField → ℕ) → ℕ
spelled slices value = fold (λ word s. word * 2 ^ s.width + bits_of s (value s.field)) 0 slices

-- how many bits slices have
abbrev pub width_of : List Slice → ℕ
width_of slices = sum_by (λ s. s.width) slices

-- the two are one field
abbrev pub same_field : EncodingField → EncodingField → Bool
same_field Opcode Opcode = true
same_field Rd Rd = true
same_field Funct3 Funct3 = true
same_field Rs1 Rs1 = true
same_field Rs2 Rs2 = true
same_field Funct7 Funct7 = true
same_field Imm Imm = true
same_field _ _ = false

-- the value of a field in a word of these slices
abbrev pub shown : List Slice → EncodingField → ℕ → ℕ
shown [] field word = 0
shown (s ∷ rest) field word = cond (same_field s.field field) (word / 2 ^ width_of rest % 2 ^ s.width * 2 ^ s.low) 0 + shown rest field word

-- the two's complement number of so many bits
abbrev pub sign_extended : ℕ → ℕ → ℤ
sign_extended bits n = if nat_lt n (2 ^ (bits - 1)) then pos n else (pos n -ℤ pos (2 ^ bits))

-- the immediate of its bits in a word: signed, except in shifts and in LUI
abbrev pub number_of : Format → ℕ → ℤ
number_of Register n = pos n
number_of Immediate n = sign_extended 12 n
number_of Shift n = pos n
number_of WordShift n = pos n
number_of Store n = sign_extended 12 n
number_of Branch n = sign_extended 13 n
number_of Upper n = pos n
number_of Jump n = sign_extended 21 n
