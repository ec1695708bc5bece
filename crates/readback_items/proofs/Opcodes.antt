-- The opcodes of printed lines: words that begin with an upper-case letter.
use Rattle.std.proofs.Common.{◌≡◌, ℕ, Bool, true, false, cond, not, ◌&&◌, List, [], ◌∷◌, refl, ap, arith}
use Rattle.std.specs.Prelude.{filter}
use Rattle.std.specs.List.{list_all}
use Rattle.std.specs.Char.{is_ascii_uppercase}
use Rattle.std.proofs.lemmas.Bool.{and_parts}
use Rattle.std.proofs.lemmas.Bool.Decides.{nat_tests}
use Rattle.rv64_instr.specs.declared.op.Op.{Op}
use Rattle.rv64_instr.specs.declared.op.Op.TheVariants.{Registers, Immediate, Branch, Load, Store}
use Rattle.rv64_instr.specs.declared.op.Op.TheVariants.{PseudoCallIndirect, PseudoTail, PseudoTailIndirect, NoReturnCall, NoReturnCallIndirect}
use Rattle.rv64_instr.specs.declared.op.RegisterOp.TheVariants.{Add, Sub, Sll, Slt, Sltu, Xor, Srl, Sra, Or, And, Addw, Subw, Sllw, Srlw, Sraw}
use Rattle.rv64_instr.specs.declared.op.ImmediateOp.TheVariants.{Addi, Slti, Sltiu, Xori, Ori, Andi, Slli, Srli, Srai, Addiw, Slliw, Srliw, Sraiw}
use Rattle.rv64_instr.specs.declared.op.BranchOp.TheVariants.{Beq, Bne, Blt, Bge, Bltu, Bgeu}
use Rattle.rv64_instr.specs.declared.op.LoadOp.TheVariants.{Lb, Lh, Lw, Ld, Lbu, Lhu, Lwu}
use Rattle.rv64_instr.specs.declared.op.StoreOp.TheVariants.{Sb, Sh, Sw, Sd}
use Rattle.rv64_instr.specs.declared.operand.Operand.{Operand}
use Rattle.rv64_instr.specs.Form.{has_implicit_callee}
use Rattle.rv64_instr.specs.Mnemonic.{mnemonic_of}
use Rattle.mir_printer.specs.Spelling.{is_definition, held_uses, uses_behind}
use Rattle.read_item.specs.Opcode.{is_read}
use Rattle.read_lexer.specs.declared.parts.Class.TheVariants as class
use Rattle.read_lexer.specs.Bytes.{is_blank, is_word_start, is_word_byte}
use Rattle.read_token.specs.Word.{is_plain, flag_of, keyword_of, word_of}
use Rattle.read_line.specs.Item.{is_upper}
use Rattle.readback_items.proofs.Cuts.{is_safe}
use Rattle.readback_items.proofs.Lexing.{Reads}
use Rattle.readback_items.proofs.Tokens.{Ends, word_read}

abbrev pub is_opcode : List ℕ → Bool
is_opcode [] = false
is_opcode (b ∷ bs) = is_ascii_uppercase b && (list_all is_word_byte bs && (is_upper (word_of (b ∷ bs)) && list_all is_safe (b ∷ bs)))

pub record Opcode (text : List ℕ) : Type 0 where
  pub first : ℕ
  pub bytes : List ℕ
  pub parts : text ≡ first ∷ bytes
  pub upper : is_ascii_uppercase first ≡ true
  pub word : is_upper (word_of text) ≡ true
  pub safe : list_all is_safe text ≡ true
  pub reads : (rest : List ℕ) → Ends rest → Reads class.Word text rest

starts : (b : ℕ) → is_ascii_uppercase b ≡ true → (is_word_start b ≡ true) × (is_blank b ≡ false)
starts b is = (grind (arith, nat_tests, is), grind (arith, nat_tests, is))

pub opcode : (text : List ℕ) → is_opcode text ≡ true → Opcode text
opcode [] is = absurd cc
opcode (b ∷ bs) is =
    let first = and_parts (is_ascii_uppercase b) (list_all is_word_byte bs && (is_upper (word_of (b ∷ bs)) && list_all is_safe (b ∷ bs))) is in
    let second = and_parts (list_all is_word_byte bs) (is_upper (word_of (b ∷ bs)) && list_all is_safe (b ∷ bs)) first.1 in
    let third = and_parts (is_upper (word_of (b ∷ bs))) (list_all is_safe (b ∷ bs)) second.1 in
    record {
      first = b;
      bytes = bs;
      parts = refl;
      upper = first.0;
      word = third.0;
      safe = third.1;
      reads = λ rest ends. word_read b bs rest (starts b first.0).0 (starts b first.0).1 second.0 ends;
    }

pub mnemonics : (op : Op) → is_read false op ≡ true → is_opcode (mnemonic_of op) ≡ true
unfolding word_of flag_of is_plain keyword_of
mnemonics (Registers Add) read = refl
mnemonics (Registers Sub) read = refl
mnemonics (Registers Sll) read = refl
mnemonics (Registers Slt) read = refl
mnemonics (Registers Sltu) read = refl
mnemonics (Registers Xor) read = refl
mnemonics (Registers Srl) read = refl
mnemonics (Registers Sra) read = refl
mnemonics (Registers Or) read = refl
mnemonics (Registers And) read = refl
mnemonics (Registers Addw) read = refl
mnemonics (Registers Subw) read = refl
mnemonics (Registers Sllw) read = refl
mnemonics (Registers Srlw) read = refl
mnemonics (Registers Sraw) read = refl
mnemonics (Immediate Addi) read = refl
mnemonics (Immediate Slti) read = refl
mnemonics (Immediate Sltiu) read = refl
mnemonics (Immediate Xori) read = refl
mnemonics (Immediate Ori) read = refl
mnemonics (Immediate Andi) read = refl
mnemonics (Immediate Slli) read = refl
mnemonics (Immediate Srli) read = refl
mnemonics (Immediate Srai) read = refl
mnemonics (Immediate Addiw) read = refl
mnemonics (Immediate Slliw) read = refl
mnemonics (Immediate Srliw) read = refl
mnemonics (Immediate Sraiw) read = refl
mnemonics (Branch Beq) read = refl
mnemonics (Branch Bne) read = refl
mnemonics (Branch Blt) read = refl
mnemonics (Branch Bge) read = refl
mnemonics (Branch Bltu) read = refl
mnemonics (Branch Bgeu) read = refl
mnemonics (Load Lb) read = refl
mnemonics (Load Lh) read = refl
mnemonics (Load Lw) read = refl
mnemonics (Load Ld) read = refl
mnemonics (Load Lbu) read = refl
mnemonics (Load Lhu) read = refl
mnemonics (Load Lwu) read = refl
mnemonics (Store Sb) read = refl
mnemonics (Store Sh) read = refl
mnemonics (Store Sw) read = refl
mnemonics (Store Sd) read = refl
mnemonics PseudoCallIndirect read = cc
mnemonics PseudoTail read = cc
mnemonics PseudoTailIndirect read = cc
mnemonics NoReturnCall read = cc
mnemonics NoReturnCallIndirect read = cc
mnemonics _ read = refl

-- calls whose callee's register is an implicit use are of the linked language
pub no_callee : (op : Op) → is_read false op ≡ true → has_implicit_callee op ≡ false
no_callee PseudoTailIndirect read = cc
no_callee NoReturnCallIndirect read = cc
no_callee op read = refl

-- so the operands behind another opcode print as they are
pub named_uses : (op : Op) (os : List Operand) → is_read false op ≡ true → uses_behind op os ≡ filter (λ o. not (is_definition o)) os
named_uses op os read = ap (λ (b : Bool). cond b (held_uses os) (filter (λ o. not (is_definition o)) os)) (no_callee op read)
