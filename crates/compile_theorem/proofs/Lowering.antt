-- Code as it is listed has the word that its layout gives it: a slot or a stack object is reached by x2 there, as the word reaches it.
use Rattle.std.proofs.Common.{◌≡◌, ℕ, zero, suc, ℤ, pos, ◌+ℤ◌, ◌-ℤ◌, Bool, true, false, List}
use Rattle.std.proofs.Common.{[], ◌∷◌, Some, None, IsSome, refl, ap, arith, sym, subst}
use Rattle.std.specs.Prelude.{Contains, option_and_then, if◌then◌else◌}
use Rattle.std.proofs.lemmas.Int.{ints}
use Rattle.std.specs.List.{list_all}
use Rattle.std.proofs.lemmas.Bool.{and_parts}
use Rattle.rv64_instr.specs.declared.op.Op.{Op}
use Rattle.rv64_instr.specs.declared.op.Op.TheVariants.{Registers, Immediate, Lui, Branch, Load, Store, Copy}
use Rattle.rv64_instr.specs.declared.op.Op.TheVariants.{PseudoBr, PseudoCall, PseudoRet, PseudoCallIndirect}
use Rattle.rv64_instr.specs.declared.op.Op.TheVariants.{PseudoTail, PseudoTailIndirect, NoReturnCall, NoReturnCallIndirect}
use Rattle.rv64_instr.specs.declared.op.ImmediateOp.{ImmediateOp}
use Rattle.rv64_instr.specs.declared.op.ImmediateOp.TheVariants.{Addi, Slti}
use Rattle.rv64_instr.specs.declared.op.LoadOp.{LoadOp}
use Rattle.rv64_instr.specs.declared.op.LoadOp.TheVariants.{Ld}
use Rattle.rv64_instr.specs.declared.op.StoreOp.{StoreOp}
use Rattle.rv64_instr.specs.declared.op.StoreOp.TheVariants.{Sd, Sb, Sh, Sw}
use Rattle.rv64_instr.specs.declared.operand.Operand.{Operand}
use Rattle.rv64_instr.specs.declared.operand.Operand.TheVariants.{Def, Use, ImplicitDef, ImplicitUse, Imm, Slot, Object as OfObject, Part, Block, Symbol, Mask}
use Rattle.rv64_instr.specs.declared.operand.Operand.TheVariants.{GlobalRegisters}
use Rattle.rv64_instr.specs.declared.symbol.Half.TheVariants.{Upper, Lower}
use Rattle.rv64_instr.specs.Form.{has_form, fits_jump, fits_copy, fits_branch, fits_registers, fits_upper, fits_load, fits_store}
use Rattle.rv64_instr.specs.Form.{fits_immediate, is_held_tail_use, is_held_tail_register, fits_held_call, fits_gone, fits_held_gone, fits_tail, fits_held_tail}
use Rattle.rv64_instr.proofs.Tails.{held_tail_uses}
use Rattle.rv64_instr.specs.Instruction.{Instruction}
use Rattle.rv64_instr.specs.Row.{Row, Branches, Jumps, add_row}
use Rattle.rv64_instr.specs.Row.{row_by, row_of}
use Rattle.rv64_word.specs.declared.machine_op.MachineOp.{MachineOp}
use Rattle.rv64_word.specs.Lowering.{fields_of, lowered, in_range}
use Rattle.rv64_word.specs.MachineOp.{is_encodable}
use Rattle.rv64_instr.specs.LocationEffects.{object_named}
use Rattle.mir_func.specs.declared.exit.Exit.{Exit}
use Rattle.mir_func.specs.declared.exit.Exit.TheVariants.{Onward, Perhaps, Always, Final}
use Rattle.mir_func.specs.Exits.{row_exit}
use Rattle.mir_func.specs.Function.{FramedFunction}
use Rattle.mir_func.specs.Sound.{TargetIn}
use Rattle.emit_code.specs.Listed.{by_pointer, listed}
use Rattle.emit_code.specs.Rule.{object_offset}

-- what code names, as it is listed and as it was
record SameCode (f : FramedFunction) (offset : ℤ) (op : Op) (os ps : List Operand) : Type 0 where
  fields : fields_of op ps offset 0 ≡ fields_of op os offset (object_offset f (object_named (row_by op os)))
  exit : row_exit (row_by op ps) ≡ row_exit (row_by op os)

add_exit : (rd a n : ℕ) → row_exit (add_row rd a n) ≡ Onward
add_exit rd zero n = refl
add_exit rd (suc a) zero = refl
add_exit rd (suc a) (suc n) = refl

module _ (f : FramedFunction) (offset : ℤ) where
  registers_same : (op : _) (os : List Operand) → fits_registers os ≡ true → SameCode f offset (Registers op) os (by_pointer f os)
  registers_same op (Def rd ∷ Use a ∷ Use b ∷ rest) form = record { fields = refl; exit = refl }
  registers_same op os form = absurd cc

  object_same : (op : ImmediateOp) (rd n : ℕ) (i : ℤ) (rest : List Operand) → fits_immediate op (Def rd ∷ OfObject n ∷ Imm i ∷ rest) ≡ true →
      SameCode f offset (Immediate op) (Def rd ∷ OfObject n ∷ Imm i ∷ rest) (by_pointer f (Def rd ∷ OfObject n ∷ Imm i ∷ rest))
  object_same Addi rd n i rest form = record { fields = refl; exit = add_exit rd 2 _ }
  object_same Slti rd n i rest form = absurd cc
  object_same op rd n i rest form = absurd cc

  immediate_same : (op : ImmediateOp) (os : List Operand) → fits_immediate op os ≡ true → SameCode f offset (Immediate op) os (by_pointer f os)
  immediate_same op (Def rd ∷ Use a ∷ Imm i ∷ rest) form = record { fields = refl; exit = refl }
  immediate_same op (Def rd ∷ OfObject n ∷ Imm i ∷ rest) form = object_same op rd n i rest form
  immediate_same op (Def rd ∷ Use a ∷ Part Lower y ∷ rest) form = record { fields = refl; exit = refl }
  immediate_same op os form = absurd cc

  upper_same : (os : List Operand) → fits_upper os ≡ true → SameCode f offset Lui os (by_pointer f os)
  upper_same (Def rd ∷ Imm i ∷ rest) form = record { fields = refl; exit = refl }
  upper_same (Def rd ∷ Part Upper y ∷ rest) form = record { fields = refl; exit = refl }
  upper_same os form = absurd cc

  branch_same : (op : _) (os : List Operand) → fits_branch os ≡ true → SameCode f offset (Branch op) os (by_pointer f os)
  branch_same op (Use a ∷ Use b ∷ Block n ∷ rest) form = record { fields = refl; exit = refl }
  branch_same op os form = absurd cc

  slot_load_same : (op : LoadOp) (rd n : ℕ) (i : ℤ) (rest : List Operand) → fits_load op (Def rd ∷ Slot n ∷ Imm i ∷ rest) ≡ true →
      SameCode f offset (Load op) (Def rd ∷ Slot n ∷ Imm i ∷ rest) (by_pointer f (Def rd ∷ Slot n ∷ Imm i ∷ rest))
  slot_load_same Ld rd n i rest form = record { fields = refl; exit = refl }
  slot_load_same _ rd n i rest form = absurd cc

  load_same : (op : LoadOp) (os : List Operand) → fits_load op os ≡ true → SameCode f offset (Load op) os (by_pointer f os)
  load_same op (Def rd ∷ Use b ∷ Imm i ∷ rest) form = record { fields = refl; exit = refl }
  load_same op (Def rd ∷ Slot n ∷ Imm i ∷ rest) form = slot_load_same op rd n i rest form
  load_same op (Def rd ∷ OfObject n ∷ Imm i ∷ rest) form = record { fields = refl; exit = refl }
  load_same op (Def rd ∷ Use b ∷ Part Lower y ∷ rest) form = record { fields = refl; exit = refl }
  load_same op os form = absurd cc

  slot_store_same : (op : StoreOp) (rs n : ℕ) (i : ℤ) (rest : List Operand) → fits_store op (Use rs ∷ Slot n ∷ Imm i ∷ rest) ≡ true →
      SameCode f offset (Store op) (Use rs ∷ Slot n ∷ Imm i ∷ rest) (by_pointer f (Use rs ∷ Slot n ∷ Imm i ∷ rest))
  slot_store_same Sd rs n i rest form = record { fields = refl; exit = refl }
  slot_store_same Sb rs n i rest form = absurd cc
  slot_store_same Sh rs n i rest form = absurd cc
  slot_store_same Sw rs n i rest form = absurd cc

  store_same : (op : StoreOp) (os : List Operand) → fits_store op os ≡ true → SameCode f offset (Store op) os (by_pointer f os)
  store_same op (Use rs ∷ Use b ∷ Imm i ∷ rest) form = record { fields = refl; exit = refl }
  store_same op (Use rs ∷ Slot n ∷ Imm i ∷ rest) form = slot_store_same op rs n i rest form
  store_same op (Use rs ∷ OfObject n ∷ Imm i ∷ rest) form = record { fields = refl; exit = refl }
  store_same op (Use rs ∷ Use b ∷ Part Lower y ∷ rest) form = record { fields = refl; exit = refl }
  store_same op os form = absurd cc

  copy_same : (os : List Operand) → fits_copy os ≡ true → SameCode f offset Copy os (by_pointer f os)
  copy_same (Def rd ∷ Use a ∷ rest) form = record { fields = refl; exit = refl }
  copy_same os form = absurd cc

  jump_same : (os : List Operand) → fits_jump os ≡ true → SameCode f offset PseudoBr os (by_pointer f os)
  jump_same (Block n ∷ []) form = record { fields = refl; exit = refl }
  jump_same (Block n ∷ ImplicitDef r ∷ rest) form = record { fields = refl; exit = refl }
  jump_same (Block n ∷ ImplicitUse r ∷ rest) form = record { fields = refl; exit = refl }
  jump_same os form = absurd cc

  call_same : (os : List Operand) → has_form PseudoCall os ≡ true → SameCode f offset PseudoCall os (by_pointer f os)
  call_same (Symbol name ∷ Mask ∷ rest) form = record { fields = refl; exit = refl }
  call_same os form = absurd cc

  behind_tail : (x : Operand) (os : List Operand) → list_all is_held_tail_use os ≡ true → by_pointer f (x ∷ os) ≡ x ∷ os
  behind_tail x [] all = refl
  behind_tail x (ImplicitUse r ∷ os) all = refl
  behind_tail x (GlobalRegisters ∷ os) all = refl
  behind_tail x (o ∷ os) all = absurd cc

  -- operands that stay give the same code
  stays_same : (op : Op) (os ps : List Operand) → ps ≡ os → SameCode f offset op os os → SameCode f offset op os ps
  stays_same op os ps e h = subst (SameCode f offset op os) (sym e) h

  held_call_same : (os : List Operand) → fits_held_call os ≡ true → SameCode f offset PseudoCallIndirect os (by_pointer f os)
  held_call_same (Use r ∷ Mask ∷ rest) form = record { fields = refl; exit = refl }
  held_call_same os form = absurd cc

  tail_same : (os : List Operand) → fits_tail os ≡ true → SameCode f offset PseudoTail os (by_pointer f os)
  tail_same (Symbol name ∷ rest) form =
      stays_same PseudoTail (Symbol name ∷ rest) (by_pointer f (Symbol name ∷ rest)) (behind_tail (Symbol name) rest (held_tail_uses rest form))
      (record { fields = refl; exit = refl })
  tail_same os form = absurd cc

  held_tail_same : (os : List Operand) → fits_held_tail os ≡ true → SameCode f offset PseudoTailIndirect os (by_pointer f os)
  held_tail_same (ImplicitUse r ∷ rest) form =
      stays_same PseudoTailIndirect (ImplicitUse r ∷ rest) (by_pointer f (ImplicitUse r ∷ rest))
      (behind_tail (ImplicitUse r) rest (and_parts (is_held_tail_register r) (list_all is_held_tail_use rest) form).1)
      (record { fields = refl; exit = refl })
  held_tail_same os form = absurd cc

  gone_same : (os : List Operand) → fits_gone os ≡ true → SameCode f offset NoReturnCall os (by_pointer f os)
  gone_same (Symbol name ∷ Mask ∷ rest) form = record { fields = refl; exit = refl }
  gone_same os form = absurd cc

  held_gone_same : (os : List Operand) → fits_held_gone os ≡ true → SameCode f offset NoReturnCallIndirect os (by_pointer f os)
  held_gone_same (ImplicitUse r ∷ Mask ∷ rest) form = record { fields = refl; exit = refl }
  held_gone_same os form = absurd cc

  code_same : (op : Op) (os : List Operand) → has_form op os ≡ true → SameCode f offset op os (by_pointer f os)
  code_same (Registers op) os form = registers_same op os form
  code_same (Immediate op) os form = immediate_same op os form
  code_same Lui os form = upper_same os form
  code_same (Branch op) os form = branch_same op os form
  code_same (Load op) os form = load_same op os form
  code_same (Store op) os form = store_same op os form
  code_same Copy os form = copy_same os form
  code_same PseudoBr os form = jump_same os form
  code_same PseudoCall os form = call_same os form
  code_same PseudoRet os form = record { fields = refl; exit = refl }
  code_same PseudoCallIndirect os form = held_call_same os form
  code_same PseudoTail os form = tail_same os form
  code_same PseudoTailIndirect os form = held_tail_same os form
  code_same NoReturnCall os form = gone_same os form
  code_same NoReturnCallIndirect os form = held_gone_same os form

-- it is lowered to the same operation
pub lowered_listed : (f : FramedFunction) (offset : ℤ) (c : Instruction) → has_form c.op c.operands ≡ true →
    lowered offset 0 (listed f c) ≡ lowered offset (object_offset f (object_named (row_of c))) c
lowered_listed f offset c form = ap (option_and_then in_range) (code_same f offset c.op c.operands form).fields

-- and control leaves it alike
pub exit_listed : (f : FramedFunction) (c : Instruction) → has_form c.op c.operands ≡ true → row_exit (row_of (listed f c)) ≡ row_exit (row_of c)
exit_listed f c form = (code_same f (pos 0) c.op c.operands form).exit

-- ---- targets

-- control goes to one of these blocks, if it goes elsewhere than onward
abbrev pub ExitIn : List ℕ → Exit → Type 0
ExitIn ids Onward = Unit {0}
ExitIn ids (Perhaps n) = Contains ids n
ExitIn ids (Always n) = Contains ids n
ExitIn ids Final = Unit {0}

pub exit_in : (ids : List ℕ) (r : Row) → TargetIn ids r → ExitIn ids (row_exit r)
exit_in ids (Branches op a b target) is = is
exit_in ids (Jumps target) is = is
exit_in ids _ is = tt

pub there_and_back : (a t : ℕ) → pos a +ℤ (pos t -ℤ pos a) ≡ pos t
there_and_back a t = grind (arith, ints)

-- an operation that is in range is itself
pub is_itself : (m : MachineOp) → IsSome (in_range m) → in_range m ≡ Some m
is_itself m some = by_test (is_encodable m) some where
  by_test : (b : Bool) → IsSome (if b then Some m else None) → (if b then Some m else None) ≡ Some m
  by_test true some = refl
  by_test false some = cc
