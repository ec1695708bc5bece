-- What a constant definition sets is set by the constant definition that is made of it.
use Rattle.std.proofs.Common.{◌≡◌, ℕ, zero, suc, ◌^◌, ◌<◌, ◌≤◌, ℤ, pos, negsuc, List, ◌∷◌, Bool, true, false, cond, refl, ap, ◌∙◌, subst, inl, inr, arith, []}
use Rattle.std.specs.Prelude.{◌*ℤ◌}
use Rattle.std.specs.List.{list_all}
use Rattle.std.proofs.lemmas.Bool.{cases_Bool, and_parts}
use Rattle.std.proofs.lemmas.Bool.Decides.{nat_tests}
use Rattle.rv64_instr.specs.declared.op.Op.{Op}
use Rattle.rv64_instr.specs.declared.op.Op.TheVariants.{Registers, Immediate, Lui, Branch, Load, Store, Copy}
use Rattle.rv64_instr.specs.declared.op.Op.TheVariants.{PseudoBr, PseudoCall, PseudoRet, PseudoCallIndirect}
use Rattle.rv64_instr.specs.declared.op.Op.TheVariants.{PseudoTail, PseudoTailIndirect, NoReturnCall, NoReturnCallIndirect}
use Rattle.rv64_instr.specs.declared.op.ImmediateOp.{ImmediateOp}
use Rattle.rv64_instr.specs.declared.op.ImmediateOp.TheVariants.{Addi}
use Rattle.rv64_instr.specs.declared.operand.Operand.{Operand}
use Rattle.rv64_instr.specs.declared.operand.Operand.TheVariants.{Def, Use, Imm, Slot as SlotOperand, Object, Block, Symbol}
use Rattle.rv64_instr.specs.Instruction.{Instruction}
use Rattle.rv64_instr.specs.Arithmetic.{word, signed, extend32}
use Rattle.rv64_instr.specs.Form.{has_form, has_12_bits, is_within, is_implicit, is_immediate}
use Rattle.rv64_instr.specs.Row.{Fixes, row_of, row_by, add_row, move_row, immediate_row, object_row, implicit_uses, held_tail}
use Rattle.rv64_instr.specs.Row.{held_gone}
use Rattle.sem_mir.proofs.Range.{extend32_in_range}
use Rattle.remat_pass.specs.Remat.{upper_part, constant_code}
use Rattle.remat_pass.proofs.Arithmetic.{word_signed, signed_word, upper_again}

-- the constant definition made of the number sets the number
abbrev pub IsConstant : ℕ → Type 0
IsConstant n = (rd : ℕ) (rest : List Operand) → row_of (constant_code rd n rest) ≡ Fixes rd n

abbrev adds : (rd n : ℕ) → List Operand → Instruction
adds rd n rest = record { op = Immediate Addi; operands = Def rd ∷ Use 0 ∷ Imm (signed n) ∷ rest; volatile = false }

abbrev loads_upper : (rd n : ℕ) → List Operand → Instruction
loads_upper rd n rest = record { op = Lui; operands = Def rd ∷ Imm (pos (upper_part n)) ∷ rest; volatile = false }

-- whatever the number, it is a constant definition
pub constant_row : (rd n : ℕ) (rest : List Operand) → (m : ℕ) × (row_of (constant_code rd n rest) ≡ Fixes rd m)
constant_row rd n rest = by_bits (has_12_bits (signed n)) where
  by_bits : (b : Bool) → (m : ℕ) × (row_of (cond b (adds rd n rest) (loads_upper rd n rest)) ≡ Fixes rd m)
  by_bits true = (word (signed n), refl)
  by_bits false = (extend32 (word (pos (upper_part n) *ℤ pos 4096)), refl)

small : (n : ℕ) → has_12_bits (signed n) ≡ true → word (signed n) ≡ n → IsConstant n
small n bits back rd rest = ap (λ (b : Bool). row_of (cond b (adds rd n rest) (loads_upper rd n rest))) bits ∙ ap (Fixes rd) back

large : (n : ℕ) → has_12_bits (signed n) ≡ false → extend32 (word (pos (upper_part n) *ℤ pos 4096)) ≡ n → IsConstant n
large n bits back rd rest = ap (λ (b : Bool). row_of (cond b (adds rd n rest) (loads_upper rd n rest))) bits ∙ ap (Fixes rd) back

constant_by : (n : ℕ) → n < 2 ^ 64 → extend32 (word (pos (upper_part n) *ℤ pos 4096)) ≡ n → IsConstant n
constant_by n lt back = elim (cases_Bool (has_12_bits (signed n))) [
  | inl bits ↦ small n bits (word_signed n lt)
  | inr bits ↦ large n bits back
]

constant_word : (z : ℤ) → has_12_bits z ≡ true → IsConstant (word z)
constant_word z h = small (word z) (ap has_12_bits (signed_word z h) ∙ h) (ap word (signed_word z h))

constant_upper : (z : ℤ) → is_within (pos 0) (pos 1048575) z ≡ true → IsConstant (extend32 (word (z *ℤ pos 4096)))
constant_upper (pos m) h =
    let le : m ≤ 1048575 = grind (arith, nat_tests) in
    constant_by (extend32 (word (pos m *ℤ pos 4096))) (extend32_in_range (word (pos m *ℤ pos 4096)))
    (ap (λ (k : ℕ). extend32 (word (pos k *ℤ pos 4096))) (upper_again m le))
constant_upper (negsuc m) h = let f : ⊥ = cc in absurd f

pub constant_zero : IsConstant 0
constant_zero = small 0 refl refl

by_sum : (rd a m r n : ℕ) → add_row rd (suc a) m ≡ Fixes r n → IsConstant n
by_sum rd a zero r n e = cc
by_sum rd a (suc m) r n e = cc

by_immediate : (op : ImmediateOp) (rd a : ℕ) (i : ℤ) → is_immediate op i ≡ true → (r n : ℕ) → immediate_row op rd a (word i) ≡ Fixes r n → IsConstant n
by_immediate Addi rd zero i f r n e = let w : word i ≡ n = cc in subst IsConstant w (constant_word i f)
by_immediate Addi rd (suc a) i f r n e = by_sum rd a (word i) r n e
by_immediate _ rd a i f r n e = cc

by_object : (op : ImmediateOp) (rd m i r n : ℕ) → object_row op rd m i ≡ Fixes r n → IsConstant n
by_object Addi rd m i r n e = cc
by_object _ rd m i r n e = cc

by_move : (rd rs r n : ℕ) → move_row rd rs ≡ Fixes r n → IsConstant n
by_move rd zero r n e = let w : 0 ≡ n = cc in subst IsConstant w constant_zero
by_move rd (suc rs) r n e = cc

held_tail_fixes : (xs : List ℕ) (r n : ℕ) → held_tail xs ≡ Fixes r n → ⊥
held_tail_fixes [] r n e = cc
held_tail_fixes (x ∷ xs) r n e = cc

held_gone_fixes : (xs : List ℕ) (r n : ℕ) → held_gone xs ≡ Fixes r n → ⊥
held_gone_fixes [] r n e = cc
held_gone_fixes (x ∷ xs) r n e = cc

by_op : (op : Op) (os : List Operand) → has_form op os ≡ true → (r n : ℕ) → row_by op os ≡ Fixes r n → IsConstant n
by_op (Registers op) (Def rd ∷ Use a ∷ Use b ∷ rest) f r n e = cc
by_op (Immediate op) (Def rd ∷ Use a ∷ Imm i ∷ rest) f r n e =
    by_immediate op rd a i (and_parts (is_immediate op i) (list_all is_implicit rest) f).0 r n e
by_op (Immediate op) (Def rd ∷ Object m ∷ Imm i ∷ rest) f r n e = by_object op rd m (word i) r n e
by_op Lui (Def rd ∷ Imm i ∷ rest) f r n e =
    let w : extend32 (word (i *ℤ pos 4096)) ≡ n = cc in
    subst IsConstant w (constant_upper i (and_parts (is_within (pos 0) (pos 1048575) i) (list_all is_implicit rest) f).0)
by_op (Branch op) (Use a ∷ Use b ∷ Block target ∷ rest) f r n e = cc
by_op (Load op) (Def rd ∷ Use base ∷ Imm i ∷ rest) f r n e = cc
by_op (Load op) (Def rd ∷ SlotOperand m ∷ rest) f r n e = cc
by_op (Load op) (Def rd ∷ Object m ∷ Imm i ∷ rest) f r n e = cc
by_op (Store op) (Use rs ∷ Use base ∷ Imm i ∷ rest) f r n e = cc
by_op (Store op) (Use rs ∷ SlotOperand m ∷ rest) f r n e = cc
by_op (Store op) (Use rs ∷ Object m ∷ Imm i ∷ rest) f r n e = cc
by_op Copy (Def rd ∷ Use rs ∷ rest) f r n e = by_move rd rs r n e
by_op PseudoBr (Block target ∷ rest) f r n e = cc
by_op PseudoCall (Symbol name ∷ rest) f r n e = cc
by_op PseudoRet rest f r n e = cc
by_op PseudoCallIndirect (Use q ∷ rest) f r n e = cc
by_op PseudoTail (Symbol name ∷ rest) f r n e = cc
by_op PseudoTailIndirect rest f r n e = absurd (held_tail_fixes (implicit_uses rest) r n e)
by_op NoReturnCall (Symbol name ∷ rest) f r n e = cc
by_op NoReturnCallIndirect rest f r n e = absurd (held_gone_fixes (implicit_uses rest) r n e)
by_op _ _ f r n e = cc

-- so does the number of each constant definition in form
pub constant_of_form : (i : Instruction) → has_form i.op i.operands ≡ true → (r n : ℕ) → row_of i ≡ Fixes r n → IsConstant n
constant_of_form i f r n e = by_op i.op i.operands f r n e
