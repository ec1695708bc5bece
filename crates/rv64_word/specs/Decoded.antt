-- Decoding of a word to its machine operation.
use Rattle.std.specs.Prelude.{ℕ, Option}
use Rattle.std.specs.Option.{option_map}
use Rattle.rv64_word.specs.declared.format.EncodingField.{EncodingField}
use Rattle.rv64_word.specs.declared.format.EncodingField.TheVariants.{Opcode, Funct3, Funct7}
use Rattle.rv64_word.specs.declared.format.Format.TheVariants.{Register}
use Rattle.rv64_word.specs.declared.machine_op.MachineOp.{MachineOp}
use Rattle.rv64_word.specs.Format.{slices_of, shown}
use Rattle.rv64_word.specs.Codes.{operation_of}
use Rattle.rv64_word.specs.MachineOp.{read_as}

-- the opcode, funct3 or funct7 of a word: the R format has all three, and other formats have them at the same bits
abbrev pub code : EncodingField → (word : ℕ) → ℕ
code field word = shown (slices_of Register) field word

-- the operation that the word's opcode, funct3 and funct7 have in the listings, with the fields of its format. The word
-- is below 2^32
unfoldable pub decoded : (word : ℕ) → Option MachineOp
decoded word = option_map (λ op. read_as op word) (operation_of (code Opcode word) (code Funct3 word) (code Funct7 word))
