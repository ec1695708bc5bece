-- The word of a machine operation is decoded to it, and what is decoded has the word.
use Rattle.std.proofs.Common.{◌≡◌, ℕ, ◌/◌, ◌%◌, ◌^◌, ◌<◌, Option, IsTrue, Some, None, refl, ap, ◌∙◌, arith}
use Rattle.std.specs.Prelude.{IfSome}
use Rattle.std.specs.Option.{option_map}
use Rattle.rv64_word.specs.declared.format.EncodingField.TheVariants.{Opcode, Rd, Funct3, Rs1, Rs2, Funct7, Imm}
use Rattle.rv64_word.specs.declared.format.Format.{Format}
use Rattle.rv64_word.specs.declared.format.Format.TheVariants.{Register, Immediate, Shift, WordShift, Store, Branch, Upper, Jump}
use Rattle.rv64_word.specs.declared.machine_op.MachineOp.{MachineOp}
use Rattle.rv64_word.specs.Format.{slices_of, shown, number_of}
use Rattle.rv64_word.specs.Operation.{encoding_of}
use Rattle.rv64_word.specs.Codes.{operation_of}
use Rattle.rv64_word.specs.MachineOp.{value_of, word_of, is_encodable, read_as}
use Rattle.rv64_word.specs.Decoded.{code, decoded}
use Rattle.rv64_word.specs.declared.word_op.WordOp.{WordOp}
use Rattle.rv64_word.proofs.Reading.{shown-fold, fields_back, CodesOf, codes, spelled_below}
use Rattle.rv64_word.proofs.Operations.{Matches, listed}
use Rattle.rv64_word.proofs.Codes.{HasCodes, operation_codes}
use Rattle.rv64_word.proofs.Spelling.{read_fits}

word_below : (m : MachineOp) (w : ℕ) → word_of m ≡ w → w < 2 ^ 32
unfolding word_of
word_below m w e = rw e at (spelled_below (encoding_of m.op).format (value_of m))

read_own : (m : MachineOp) → IsTrue (is_encodable m) → read_as m.op (word_of m) ≡ m
unfolding word_of
read_own m fits =
    let format = (encoding_of m.op).format in
    let slices = slices_of format in
    let back = fields_back format m fits in
    let rd : shown slices Rd (word_of m) ≡ m.rd = shown-fold (value_of m) slices 0 Rd ∙ back.rd in
    let rs1 : shown slices Rs1 (word_of m) ≡ m.rs1 = shown-fold (value_of m) slices 0 Rs1 ∙ back.rs1 in
    let rs2 : shown slices Rs2 (word_of m) ≡ m.rs2 = shown-fold (value_of m) slices 0 Rs2 ∙ back.rs2 in
    let imm : number_of format (shown slices Imm (word_of m)) ≡ m.imm = ap (number_of format) (shown-fold (value_of m) slices 0 Imm) ∙ back.imm in
    λ i. record { op = m.op; rd = rd i; rs1 = rs1 i; rs2 = rs2 i; imm = imm i }

-- the fields of a word are those of its operation
pub read_at : (m : MachineOp) → IsTrue (is_encodable m) → (w : ℕ) → word_of m ≡ w → read_as m.op w ≡ m
read_at m fits w e = rw e at (read_own m fits)

same_codes : (format : Format) (m : MachineOp) (w : ℕ) → CodesOf format (value_of m) w → Matches format (encoding_of m.op) (w / 4096 % 8) (w / 33554432)
same_codes Register m w h = h
same_codes Immediate m w h = h
same_codes Shift m w h = h
same_codes WordShift m w h = h
same_codes Store m w h = h
same_codes Branch m w h = h
same_codes Upper m w h = tt
same_codes Jump m w h = tt

operation_own : (m : MachineOp) → operation_of (word_of m % 128) (word_of m / 4096 % 8) (word_of m / 33554432) ≡ Some m.op
unfolding word_of
operation_own m =
    let format = (encoding_of m.op).format in
    let k = codes format (value_of m) in
    rw k.0 (listed m.op _ _ (same_codes format m (word_of m) k.1))

-- the operation that a word's opcode, funct3 and funct7 name
pub operation_at : (m : MachineOp) (w : ℕ) → word_of m ≡ w → operation_of (w % 128) (w / 4096 % 8) (w / 33554432) ≡ Some m.op
operation_at m w e = rw e at (operation_own m)

code_opcode : (w : ℕ) → code Opcode w ≡ w % 128
code_opcode w = omega arith

code_funct3 : (w : ℕ) → code Funct3 w ≡ w / 4096 % 8
code_funct3 w = omega arith

code_funct7 : (w : ℕ) → w < 2 ^ 32 → code Funct7 w ≡ w / 33554432
code_funct7 w low = omega arith

-- the codes of a word below 2^32 are its low seven bits, the bits 14 to 12, and the high seven bits
pub decoded_by : (w : ℕ) → w < 2 ^ 32 → decoded w ≡ option_map (λ op. read_as op w) (operation_of (w % 128) (w / 4096 % 8) (w / 33554432))
unfolding decoded
decoded_by w low = rw (code_opcode w, code_funct3 w, code_funct7 w low) refl

pub is_decoded : (m : MachineOp) (w : ℕ) → IsTrue (is_encodable m) → word_of m ≡ w → decoded w ≡ Some m
is_decoded m w fits e =
    decoded_by w (word_below m w e) ∙ ap (option_map (λ op. read_as op w)) (operation_at m w e) ∙ ap (λ (x : MachineOp). Some x) (read_at m fits w e)

-- the operation has its fields in range, and the word
abbrev pub IsOf : ℕ → MachineOp → Type 0
IsOf w m = IsTrue (is_encodable m) × (word_of m ≡ w)

read_back : (w : ℕ) → w < 2 ^ 32 → (o : Option WordOp) → IfSome o (HasCodes (w % 128) (w / 4096 % 8) (w / 33554432)) →
    IfSome (option_map (λ op. read_as op w) o) (IsOf w)
unfolding word_of
read_back w low None h = tt
read_back w low (Some op) h = read_fits (encoding_of op).format op w low h

pub decoded_back : (w : ℕ) → w < 2 ^ 32 → IfSome (decoded w) (IsOf w)
decoded_back w low =
    rw (decoded_by w low) (read_back w low (operation_of (w % 128) (w / 4096 % 8) (w / 33554432)) (operation_codes (w % 128) (w / 4096 % 8) (w / 33554432)))
