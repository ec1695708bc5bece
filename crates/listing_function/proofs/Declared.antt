-- No operand that is listed names a stack object.
use Rattle.std.proofs.Common.{◌≡◌, ℕ, Bool, true, false, ◌&&◌, List, [], ◌∷◌, ◌+◌, refl, subst, sym}
use Rattle.std.specs.Prelude.{All, ℤ, pos, ◌+ℤ◌}
use Rattle.std.specs.List.{list_all}
use Rattle.std.proofs.lemmas.Bool.{and_parts}
use Rattle.std.proofs.lemmas.List.Elements.{All-cons, All-nil}
use Rattle.rv64_instr.specs.declared.op.Op.{Op}
use Rattle.rv64_instr.specs.declared.op.Op.TheVariants.{Registers, Immediate, Lui, Branch, Load, Store, Copy}
use Rattle.rv64_instr.specs.declared.op.Op.TheVariants.{PseudoBr, PseudoCall, PseudoRet, PseudoCallIndirect}
use Rattle.rv64_instr.specs.declared.op.Op.TheVariants.{PseudoTail, PseudoTailIndirect, NoReturnCall, NoReturnCallIndirect}
use Rattle.rv64_instr.specs.declared.op.ImmediateOp.{ImmediateOp}
use Rattle.rv64_instr.specs.declared.op.LoadOp.{LoadOp}
use Rattle.rv64_instr.specs.declared.op.StoreOp.{StoreOp}
use Rattle.rv64_instr.specs.declared.operand.Operand.{Operand}
use Rattle.rv64_instr.specs.declared.operand.Operand.TheVariants.{Def, Use, ImplicitDef, ImplicitUse, Imm, Slot, Object, Part, Block, Symbol, Mask}
use Rattle.rv64_instr.specs.declared.operand.Operand.TheVariants.{GlobalRegisters}
use Rattle.rv64_instr.specs.declared.symbol.Half.TheVariants.{Upper, Lower}
use Rattle.rv64_instr.specs.Arithmetic.{load_width, store_width}
use Rattle.rv64_instr.specs.Form.{is_implicit, is_argument, is_result, is_addi, is_immediate, has_12_bits, moves_slot, is_within, has_form}
use Rattle.rv64_instr.specs.Form.{fits_registers, fits_immediate, fits_upper, fits_branch, fits_load, fits_store, fits_copy, fits_jump}
use Rattle.rv64_instr.specs.Form.{fits_call, is_held_tail_use, is_held_tail_register, fits_held_call, fits_held_gone, fits_tail, fits_held_tail}
use Rattle.rv64_instr.proofs.Tails.{gone_calls, held_gone_arguments, held_tail_uses}
use Rattle.mir_func.specs.Function.{FramedFunction}
use Rattle.mir_func.specs.Objects.{offset_of}
use Rattle.mir_func.specs.SoundFrame.{own_size}
use Rattle.emit_code.specs.Listed.{by_pointer}
use Rattle.mir_printer.specs.Printable.{IsAsDeclared}

abbrev none : ℕ → Bool
none = λ n. false

abbrev P : Operand → Type 0
P = IsAsDeclared none

implicit_apart : (o : Operand) → is_implicit o ≡ true → P o
implicit_apart (Slot n) is = refl
implicit_apart (Object n) is = absurd cc
implicit_apart _ is = tt

argument_apart : (o : Operand) → is_argument o ≡ true → P o
argument_apart (Slot n) is = refl
argument_apart (Object n) is = absurd cc
argument_apart _ is = tt

result_apart : (o : Operand) → is_result o ≡ true → P o
result_apart (Slot n) is = refl
result_apart (Object n) is = absurd cc
result_apart _ is = tt

tail_apart : (o : Operand) → is_held_tail_use o ≡ true → P o
tail_apart (Slot n) is = refl
tail_apart (Object n) is = absurd cc
tail_apart _ is = tt

each : (test : Operand → Bool) → ((o : Operand) → test o ≡ true → P o) → (os : List Operand) → list_all test os ≡ true → All P os
each test apart [] all = All-nil P
each test apart (o ∷ os) all =
    let both = and_parts (test o) (list_all test os) all in All-cons P o os (apart o both.0) (each test apart os both.1)

three : (a b c : Operand) (rest : List Operand) → P a → P b → P c → All P rest → All P (a ∷ b ∷ c ∷ rest)
three a b c rest x y z all = All-cons P a (b ∷ c ∷ rest) x (All-cons P b (c ∷ rest) y (All-cons P c rest z all))

implicit : (rest : List Operand) → list_all is_implicit rest ≡ true → All P rest
implicit rest all = each is_implicit implicit_apart rest all

module _ (f : FramedFunction) where
  registers_declared : (os : List Operand) → fits_registers os ≡ true → All P (by_pointer f os)
  registers_declared (Def rd ∷ Use a ∷ Use b ∷ rest) form = three (Def rd) (Use a) (Use b) rest tt tt tt (implicit rest form)
  registers_declared os form = absurd cc

  immediate_declared : (op : ImmediateOp) (os : List Operand) → fits_immediate op os ≡ true → All P (by_pointer f os)
  immediate_declared op (Def rd ∷ Use a ∷ Imm i ∷ rest) form =
      three (Def rd) (Use a) (Imm i) rest tt tt tt (implicit rest (and_parts (is_immediate op i) (list_all is_implicit rest) form).1)
  immediate_declared op (Def rd ∷ Object n ∷ Imm i ∷ rest) form =
      three (Def rd) (Use 2) (Imm (pos (own_size f + offset_of f.objects n) +ℤ i)) rest tt tt tt
      (implicit rest (and_parts (is_addi op && is_immediate op i) (list_all is_implicit rest) form).1)
  immediate_declared op (Def rd ∷ Use a ∷ Part Lower y ∷ rest) form =
      three (Def rd) (Use a) (Part Lower y) rest tt tt tt (implicit rest (and_parts (is_addi op) (list_all is_implicit rest) form).1)
  immediate_declared op os form = absurd cc

  upper_declared : (os : List Operand) → fits_upper os ≡ true → All P (by_pointer f os)
  upper_declared (Def rd ∷ Imm i ∷ rest) form =
      All-cons P (Def rd) (Imm i ∷ rest) tt (All-cons P (Imm i) rest tt (implicit rest (and_parts (is_within (pos 0) (pos 1048575) i) (list_all is_implicit
      rest) form).1))
  upper_declared (Def rd ∷ Part Upper y ∷ rest) form =
      All-cons P (Def rd) (Part Upper y ∷ rest) tt (All-cons P (Part Upper y) rest tt (implicit rest form))
  upper_declared os form = absurd cc

  branch_declared : (os : List Operand) → fits_branch os ≡ true → All P (by_pointer f os)
  branch_declared (Use a ∷ Use b ∷ Block n ∷ rest) form = three (Use a) (Use b) (Block n) rest tt tt tt (implicit rest form)
  branch_declared os form = absurd cc

  load_declared : (op : LoadOp) (os : List Operand) → fits_load op os ≡ true → All P (by_pointer f os)
  load_declared op (Def rd ∷ Use b ∷ Imm i ∷ rest) form =
      three (Def rd) (Use b) (Imm i) rest tt tt tt (implicit rest (and_parts (has_12_bits i) (list_all is_implicit rest) form).1)
  load_declared op (Def rd ∷ Slot n ∷ Imm i ∷ rest) form =
      three (Def rd) (Use 2) (Imm (pos n)) rest tt tt tt (implicit rest (and_parts (moves_slot (load_width op) i) (list_all is_implicit rest) form).1)
  load_declared op (Def rd ∷ Object n ∷ Imm i ∷ rest) form =
      three (Def rd) (Use 2) (Imm (pos (own_size f + offset_of f.objects n) +ℤ i)) rest tt tt tt
      (implicit rest (and_parts (has_12_bits i) (list_all is_implicit rest) form).1)
  load_declared op (Def rd ∷ Use b ∷ Part Lower y ∷ rest) form = three (Def rd) (Use b) (Part Lower y) rest tt tt tt (implicit rest form)
  load_declared op os form = absurd cc

  store_declared : (op : StoreOp) (os : List Operand) → fits_store op os ≡ true → All P (by_pointer f os)
  store_declared op (Use rs ∷ Use b ∷ Imm i ∷ rest) form =
      three (Use rs) (Use b) (Imm i) rest tt tt tt (implicit rest (and_parts (has_12_bits i) (list_all is_implicit rest) form).1)
  store_declared op (Use rs ∷ Slot n ∷ Imm i ∷ rest) form =
      three (Use rs) (Use 2) (Imm (pos n)) rest tt tt tt (implicit rest (and_parts (moves_slot (store_width op) i) (list_all is_implicit rest) form).1)
  store_declared op (Use rs ∷ Object n ∷ Imm i ∷ rest) form =
      three (Use rs) (Use 2) (Imm (pos (own_size f + offset_of f.objects n) +ℤ i)) rest tt tt tt
      (implicit rest (and_parts (has_12_bits i) (list_all is_implicit rest) form).1)
  store_declared op (Use rs ∷ Use b ∷ Part Lower y ∷ rest) form = three (Use rs) (Use b) (Part Lower y) rest tt tt tt (implicit rest form)
  store_declared op os form = absurd cc

  copy_declared : (os : List Operand) → fits_copy os ≡ true → All P (by_pointer f os)
  copy_declared (Def rd ∷ Use a ∷ rest) form = All-cons P (Def rd) (Use a ∷ rest) tt (All-cons P (Use a) rest tt (implicit rest form))
  copy_declared os form = absurd cc

  behind_block : (n : ℕ) (os : List Operand) → list_all is_implicit os ≡ true → by_pointer f (Block n ∷ os) ≡ Block n ∷ os
  behind_block n [] all = refl
  behind_block n (ImplicitDef r ∷ os) all = refl
  behind_block n (ImplicitUse r ∷ os) all = refl
  behind_block n (o ∷ os) all = absurd cc

  jump_declared : (os : List Operand) → fits_jump os ≡ true → All P (by_pointer f os)
  jump_declared (Block n ∷ rest) form =
      subst (All P) (sym (behind_block n rest form)) (All-cons P (Block n) rest tt (implicit rest form))
  jump_declared os form = absurd cc

  call_declared : (os : List Operand) → fits_call os ≡ true → All P (by_pointer f os)
  call_declared (Symbol name ∷ Mask ∷ rest) form =
      All-cons P (Symbol name) (Mask ∷ rest) tt (All-cons P Mask rest tt (each is_argument argument_apart rest form))
  call_declared os form = absurd cc

  behind_result : (x : Operand) (o : Operand) (os : List Operand) → is_result o ≡ true → by_pointer f (x ∷ o ∷ os) ≡ x ∷ o ∷ os
  behind_result x (ImplicitUse r) os is = refl
  behind_result x GlobalRegisters os is = refl
  behind_result x o os is = absurd cc

  results_stay : (os : List Operand) → list_all is_result os ≡ true → by_pointer f os ≡ os
  results_stay [] all = refl
  results_stay (o ∷ []) all = refl
  results_stay (x ∷ o ∷ os) all =
      behind_result x o os (and_parts (is_result o) (list_all is_result os) (and_parts (is_result x) (is_result o && list_all is_result os) all).1).0

  behind_tail : (x : Operand) (os : List Operand) → list_all is_held_tail_use os ≡ true → by_pointer f (x ∷ os) ≡ x ∷ os
  behind_tail x [] all = refl
  behind_tail x (ImplicitUse r ∷ os) all = refl
  behind_tail x (GlobalRegisters ∷ os) all = refl
  behind_tail x (o ∷ os) all = absurd cc

  held_call_declared : (os : List Operand) → fits_held_call os ≡ true → All P (by_pointer f os)
  held_call_declared (Use r ∷ Mask ∷ rest) form =
      All-cons P (Use r) (Mask ∷ rest) tt (All-cons P Mask rest tt (each is_argument argument_apart rest form))
  held_call_declared os form = absurd cc

  held_gone_declared : (os : List Operand) → fits_held_gone os ≡ true → All P (by_pointer f os)
  held_gone_declared (ImplicitUse r ∷ Mask ∷ rest) form =
      All-cons P (ImplicitUse r) (Mask ∷ rest) tt (All-cons P Mask rest tt (each is_argument argument_apart rest (held_gone_arguments r rest form)))
  held_gone_declared os form = absurd cc

  tail_declared : (os : List Operand) → fits_tail os ≡ true → All P (by_pointer f os)
  tail_declared (Symbol name ∷ rest) form =
      let all = held_tail_uses rest form in
      subst (All P) (sym (behind_tail (Symbol name) rest all)) (All-cons P (Symbol name) rest tt (each is_held_tail_use tail_apart rest all))
  tail_declared os form = absurd cc

  held_tail_declared : (os : List Operand) → fits_held_tail os ≡ true → All P (by_pointer f os)
  held_tail_declared (ImplicitUse r ∷ rest) form =
      let all = (and_parts (is_held_tail_register r) (list_all is_held_tail_use rest) form).1 in
      subst (All P) (sym (behind_tail (ImplicitUse r) rest all)) (All-cons P (ImplicitUse r) rest tt (each is_held_tail_use tail_apart rest all))
  held_tail_declared os form = absurd cc

  pub operands_declared : (op : Op) (os : List Operand) → has_form op os ≡ true → All P (by_pointer f os)
  operands_declared (Registers op) os form = registers_declared os form
  operands_declared (Immediate op) os form = immediate_declared op os form
  operands_declared Lui os form = upper_declared os form
  operands_declared (Branch op) os form = branch_declared os form
  operands_declared (Load op) os form = load_declared op os form
  operands_declared (Store op) os form = store_declared op os form
  operands_declared Copy os form = copy_declared os form
  operands_declared PseudoBr os form = jump_declared os form
  operands_declared PseudoCall os form = call_declared os form
  operands_declared PseudoCallIndirect os form = held_call_declared os form
  operands_declared PseudoTail os form = tail_declared os form
  operands_declared PseudoTailIndirect os form = held_tail_declared os form
  operands_declared NoReturnCall os form = call_declared os (gone_calls os form)
  operands_declared NoReturnCallIndirect os form = held_gone_declared os form
  operands_declared PseudoRet os form = subst (All P) (sym (results_stay os form)) (each is_result result_apart os form)
