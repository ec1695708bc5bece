-- Linking changes the word of an instruction as it does by the instruction that its line has.
use Rattle.std.proofs.Common.{◌≡◌, ℕ, ℤ, List, ◌∷◌, Option, None, refl, sym, ap, ◌∙◌}
use Rattle.rv64_instr.specs.Instruction.{Instruction}
use Rattle.rv64_instr.specs.declared.op.Op.{Op}
use Rattle.rv64_instr.specs.declared.op.Op.TheVariants.{Registers, Immediate, Lui, Branch, Load, Store, Copy}
use Rattle.rv64_instr.specs.declared.op.Op.TheVariants.{PseudoBr, PseudoCall, PseudoRet, PseudoCallIndirect}
use Rattle.rv64_instr.specs.declared.op.Op.TheVariants.{PseudoTail, PseudoTailIndirect, NoReturnCall, NoReturnCallIndirect}
use Rattle.rv64_instr.specs.declared.operand.Operand.{Operand}
use Rattle.rv64_instr.specs.declared.operand.Operand.TheVariants.{Def, Use, Imm, Slot, Object, Part, Block, Symbol}
use Rattle.rv64_instr.specs.declared.symbol.Symbol.{Symbol as Linked}
use Rattle.rv64_instr.specs.declared.symbol.LinkedAddress.{LinkedAddress}
use Rattle.rv64_instr.specs.declared.symbol.Half.{Half}
use Rattle.rv64_instr.specs.Arithmetic.{word}
use Rattle.rv64_instr.specs.LocationEffects.{part_named}
use Rattle.rv64_instr.specs.Row.{Row, row_by, row_of, implicit_uses}
use Rattle.rv64_instr.specs.View.{class_of}
use Rattle.rv64_instr.proofs.Halves.{number_part, object_part, move_part, held_tail_part, held_gone_part}
use Rattle.rv64_word.specs.Linked.{linked_by, linked_word}
use Rattle.mir_func.specs.Function.{FramedFunction}
use Rattle.emit_code.specs.Listed.{by_pointer, listed}

abbrev IsNoPart : Operand → Type 0
IsNoPart (Part half y) = ⊥
IsNoPart _ = Unit {0}

-- where the third operand is a number, and the second isn't a half of an address, the row names none
no_part : (op : Op) (a b : Operand) (i : ℤ) (rest : List Operand) → IsNoPart b → part_named (row_by op (a ∷ b ∷ Imm i ∷ rest)) ≡ None
no_part (Registers op) (Def rd) (Use a) i rest h = refl
no_part (Immediate op) (Def rd) (Use a) i rest h = number_part op rd a (word i)
no_part (Immediate op) (Def rd) (Object n) i rest h = object_part op rd n (word i)
no_part Lui (Def rd) (Imm k) i rest h = refl
no_part Lui (Def rd) (Part half y) i rest h = absurd h
no_part (Branch op) (Use a) (Use b) i rest h = refl
no_part (Load op) (Def rd) (Use b) i rest h = refl
no_part (Load op) (Def rd) (Slot n) i rest h = refl
no_part (Load op) (Def rd) (Object n) i rest h = refl
no_part (Store op) (Use rs) (Use b) i rest h = refl
no_part (Store op) (Use rs) (Slot n) i rest h = refl
no_part (Store op) (Use rs) (Object n) i rest h = refl
no_part Copy (Def rd) (Use rs) i rest h = move_part rd rs
no_part PseudoBr (Block n) b i rest h = refl
no_part PseudoCall (Symbol name) b i rest h = refl
no_part PseudoRet a b i rest h = refl
no_part PseudoCallIndirect (Use r) b i rest h = refl
no_part PseudoTail (Symbol name) b i rest h = refl
no_part PseudoTailIndirect a b i rest h = held_tail_part (implicit_uses (a ∷ b ∷ Imm i ∷ rest))
no_part NoReturnCall (Symbol name) b i rest h = refl
no_part NoReturnCallIndirect a b i rest h = held_gone_part (implicit_uses (a ∷ b ∷ Imm i ∷ rest))
no_part _ _ _ i rest h = refl

module _ (symbols : Linked → ℕ) (w : ℕ) where
  -- without a half of an address linking changes nothing
  pub unlinked : (r : Row) → part_named r ≡ None → linked_word symbols r w ≡ w
  unlinked r none = ap (λ (z : Option (Half × LinkedAddress)). linked_by symbols (class_of r) z w) none

  both : (r s : Row) → part_named r ≡ None → part_named s ≡ None → linked_word symbols r w ≡ linked_word symbols s w
  both r s one other = unlinked r one ∙ sym (unlinked s other)

  by_operands : (f : FramedFunction) (op : Op) (os : List Operand) → linked_word symbols (row_by op (by_pointer f os)) w ≡ linked_word symbols (row_by op os) w
  by_operands f op (x ∷ Slot n ∷ Imm i ∷ rest) =
      both (row_by op (by_pointer f (x ∷ Slot n ∷ Imm i ∷ rest))) (row_by op (x ∷ Slot n ∷ Imm i ∷ rest)) (no_part op x (Use 2) _ rest tt)
      (no_part op x (Slot n) i rest tt)
  by_operands f op (x ∷ Object n ∷ Imm i ∷ rest) =
      both (row_by op (by_pointer f (x ∷ Object n ∷ Imm i ∷ rest))) (row_by op (x ∷ Object n ∷ Imm i ∷ rest)) (no_part op x (Use 2) _ rest tt)
      (no_part op x (Object n) i rest tt)
  by_operands f op _ = refl

  -- the instruction of a line is linked as the instruction itself
  pub word_listed : (f : FramedFunction) (c : Instruction) → linked_word symbols (row_of (listed f c)) w ≡ linked_word symbols (row_of c) w
  word_listed f c = by_operands f c.op c.operands
