-- What the text of an item tells, where stack entries are read as objects.
use Rattle.std.proofs.Common.{◌≡◌, ℕ, ℤ, pos, negsuc, Bool, true, false, cond, ◌&&◌, eqb, List, [], ◌∷◌, All, Option, Some, refl, ap}
use Rattle.std.proofs.Common.{◌∙◌, arith}
use Rattle.std.specs.Prelude.{int_le}
use Rattle.std.specs.List.{list_all}
use Rattle.std.proofs.lemmas.Bool.{and_parts, and_from, leb-true, cond-true}
use Rattle.std.proofs.lemmas.Bool.Decides.{nat_tests}
use Rattle.std.proofs.lemmas.List.Elements.{All-nil, All-cons}
use Rattle.rv64_instr.specs.declared.op.Op.{Op}
use Rattle.rv64_instr.specs.declared.op.Op.TheVariants.{Registers, Immediate, Lui, Branch, Load, Store, Copy}
use Rattle.rv64_instr.specs.declared.op.Op.TheVariants.{PseudoBr, PseudoCall, PseudoRet, PseudoCallIndirect}
use Rattle.rv64_instr.specs.declared.op.Op.TheVariants.{PseudoTail, PseudoTailIndirect, NoReturnCall, NoReturnCallIndirect}
use Rattle.rv64_instr.specs.declared.op.ImmediateOp.{ImmediateOp}
use Rattle.rv64_instr.specs.declared.op.ImmediateOp.TheVariants.{Addi}
use Rattle.rv64_instr.specs.declared.op.LoadOp.{LoadOp}
use Rattle.rv64_instr.specs.declared.op.StoreOp.{StoreOp}
use Rattle.rv64_instr.specs.declared.operand.Operand.{Operand}
use Rattle.rv64_instr.specs.declared.operand.Operand.TheVariants.{Def, Use, Imm, Slot, Object, Part, Block, Symbol, Mask, ImplicitUse}
use Rattle.rv64_instr.specs.declared.symbol.Half.TheVariants.{Upper, Lower}
use Rattle.rv64_instr.specs.Arithmetic.{load_width, store_width}
use Rattle.rv64_instr.specs.Form.{is_within, has_12_bits, is_immediate, is_addi, moves_slot, is_implicit, is_argument, is_result, fits_registers}
use Rattle.rv64_instr.specs.Form.{fits_immediate, fits_upper}
use Rattle.rv64_instr.specs.Form.{fits_branch, fits_load, fits_store, fits_copy, fits_jump, fits_call, has_form}
use Rattle.rv64_instr.specs.Form.{is_last_argument, is_call_register, is_tail_use, is_held_tail_use, is_held_tail_register}
use Rattle.rv64_instr.specs.Form.{fits_held_call, fits_gone, fits_held_gone, fits_tail, fits_held_tail}
use Rattle.rv64_instr.proofs.Tails.{last_arguments, held_tail_uses}
use Rattle.rv64_instr.specs.Instruction.{Instruction}
use Rattle.rv64_instr.specs.Row.{row_of}
use Rattle.rv64_instr.specs.LocationEffects.{object_named as row_object}
use Rattle.read_body.specs.FirstUseOrder.{is_met}
use Rattle.read_program.specs.Objects.{operand_as, operands_as, instr_as}

-- ---- the form is kept

module _ (ids : List ℕ) where
  same_all : (p : Operand → Bool) → ((o : Operand) → p (operand_as ids o) ≡ p o) → (os : List Operand) → list_all p (operands_as ids os) ≡ list_all p os
  same_all p each [] = refl
  same_all p each (o ∷ os) = ap (λ (b : Bool). b && list_all p (operands_as ids os)) (each o) ∙ ap (λ (b : Bool). p o && b) (same_all p each os)

  implicit_as : (o : Operand) → is_implicit (operand_as ids o) ≡ is_implicit o
  implicit_as (Slot n) = by (is_met n ids) where
    by : (b : Bool) → is_implicit (cond b (Object n) (Slot n)) ≡ false
    by true = refl
    by false = refl
  implicit_as o = refl

  argument_as : (o : Operand) → is_argument (operand_as ids o) ≡ is_argument o
  argument_as (Slot n) = by (is_met n ids) where
    by : (b : Bool) → is_argument (cond b (Object n) (Slot n)) ≡ false
    by true = refl
    by false = refl
  argument_as o = refl

  last_as : (o : Operand) → is_last_argument (operand_as ids o) ≡ is_last_argument o
  last_as (Slot n) = by (is_met n ids) where
    by : (b : Bool) → is_last_argument (cond b (Object n) (Slot n)) ≡ false
    by true = refl
    by false = refl
  last_as o = refl

  result_as : (o : Operand) → is_result (operand_as ids o) ≡ is_result o
  result_as (Slot n) = by (is_met n ids) where
    by : (b : Bool) → is_result (cond b (Object n) (Slot n)) ≡ false
    by true = refl
    by false = refl
  result_as o = refl

  tail_as : (o : Operand) → is_tail_use (operand_as ids o) ≡ is_tail_use o
  tail_as (Slot n) = by (is_met n ids) where
    by : (b : Bool) → is_tail_use (cond b (Object n) (Slot n)) ≡ false
    by true = refl
    by false = refl
  tail_as o = refl

  held_tail_as : (o : Operand) → is_held_tail_use (operand_as ids o) ≡ is_held_tail_use o
  held_tail_as (Slot n) = by (is_met n ids) where
    by : (b : Bool) → is_held_tail_use (cond b (Object n) (Slot n)) ≡ false
    by true = refl
    by false = refl
  held_tail_as o = refl

  implicits : (rest : List Operand) → list_all is_implicit rest ≡ true → list_all is_implicit (operands_as ids rest) ≡ true
  implicits rest e = same_all is_implicit implicit_as rest ∙ e

  behind : (b : Bool) (rest : List Operand) → (b && list_all is_implicit rest) ≡ true → (b && list_all is_implicit (operands_as ids rest)) ≡ true
  behind b rest e = ap (λ (c : Bool). b && c) (same_all is_implicit implicit_as rest) ∙ e

  -- a whole slot's number is 0
  zero_fits : (width : ℕ) (i : ℤ) → moves_slot width i ≡ true → has_12_bits i ≡ true
  zero_fits width i e = by i (and_parts (int_le (pos 0) i) (int_le i (pos 0)) (and_parts (eqb width 8) (is_within (pos 0) (pos 0) i) e).1) where
    by : (j : ℤ) → (int_le (pos 0) j ≡ true) × (int_le j (pos 0) ≡ true) → has_12_bits j ≡ true
    by (pos n) is = and_from (int_le (negsuc 2047) (pos n)) (int_le (pos n) (pos 2047)) refl (let small = leb-true n 0 is.1 in grind (arith, nat_tests))
    by (negsuc n) is = absurd (let e = is.0 in cc)

  registers_kept : (os : List Operand) → fits_registers os ≡ true → fits_registers (operands_as ids os) ≡ true
  registers_kept (Def rd ∷ Use a ∷ Use b ∷ rest) e = implicits rest e
  registers_kept os e = absurd cc

  immediate_kept : (op : ImmediateOp) (os : List Operand) → fits_immediate op os ≡ true → fits_immediate op (operands_as ids os) ≡ true
  immediate_kept op (Def rd ∷ Use a ∷ Imm i ∷ rest) e = behind (is_immediate op i) rest e
  immediate_kept op (Def rd ∷ Object n ∷ Imm i ∷ rest) e = behind (is_addi op && is_immediate op i) rest e
  immediate_kept op (Def rd ∷ Use a ∷ Part Lower y ∷ rest) e = behind (is_addi op) rest e
  immediate_kept op os e = absurd cc

  upper_kept : (os : List Operand) → fits_upper os ≡ true → fits_upper (operands_as ids os) ≡ true
  upper_kept (Def rd ∷ Imm i ∷ rest) e = behind (is_within (pos 0) (pos 1048575) i) rest e
  upper_kept (Def rd ∷ Part Upper y ∷ rest) e = implicits rest e
  upper_kept os e = absurd cc

  branch_kept : (os : List Operand) → fits_branch os ≡ true → fits_branch (operands_as ids os) ≡ true
  branch_kept (Use a ∷ Use b ∷ Block n ∷ rest) e = implicits rest e
  branch_kept os e = absurd cc

  load_kept : (op : LoadOp) (os : List Operand) → fits_load op os ≡ true → fits_load op (operands_as ids os) ≡ true
  load_kept op (Def rd ∷ Use a ∷ Imm i ∷ rest) e = behind (has_12_bits i) rest e
  load_kept op (Def rd ∷ Slot n ∷ Imm i ∷ rest) e = by (is_met n ids) where
    by : (b : Bool) → fits_load op (Def rd ∷ cond b (Object n) (Slot n) ∷ Imm i ∷ operands_as ids rest) ≡ true
    by true = let parts = and_parts (moves_slot (load_width op) i) (list_all is_implicit rest) e in
        and_from (has_12_bits i) (list_all is_implicit (operands_as ids rest)) (zero_fits (load_width op) i parts.0) (implicits rest parts.1)
    by false = behind (moves_slot (load_width op) i) rest e
  load_kept op (Def rd ∷ Object n ∷ Imm i ∷ rest) e = behind (has_12_bits i) rest e
  load_kept op (Def rd ∷ Use a ∷ Part Lower y ∷ rest) e = implicits rest e
  load_kept op os e = absurd cc

  store_kept : (op : StoreOp) (os : List Operand) → fits_store op os ≡ true → fits_store op (operands_as ids os) ≡ true
  store_kept op (Use rs ∷ Use a ∷ Imm i ∷ rest) e = behind (has_12_bits i) rest e
  store_kept op (Use rs ∷ Slot n ∷ Imm i ∷ rest) e = by (is_met n ids) where
    by : (b : Bool) → fits_store op (Use rs ∷ cond b (Object n) (Slot n) ∷ Imm i ∷ operands_as ids rest) ≡ true
    by true = let parts = and_parts (moves_slot (store_width op) i) (list_all is_implicit rest) e in
        and_from (has_12_bits i) (list_all is_implicit (operands_as ids rest)) (zero_fits (store_width op) i parts.0) (implicits rest parts.1)
    by false = behind (moves_slot (store_width op) i) rest e
  store_kept op (Use rs ∷ Object n ∷ Imm i ∷ rest) e = behind (has_12_bits i) rest e
  store_kept op (Use rs ∷ Use a ∷ Part Lower y ∷ rest) e = implicits rest e
  store_kept op os e = absurd cc

  copy_kept : (os : List Operand) → fits_copy os ≡ true → fits_copy (operands_as ids os) ≡ true
  copy_kept (Def rd ∷ Use rs ∷ rest) e = implicits rest e
  copy_kept os e = absurd cc

  jump_kept : (os : List Operand) → fits_jump os ≡ true → fits_jump (operands_as ids os) ≡ true
  jump_kept (Block n ∷ rest) e = implicits rest e
  jump_kept os e = absurd cc

  call_kept : (os : List Operand) → fits_call os ≡ true → fits_call (operands_as ids os) ≡ true
  call_kept (Symbol name ∷ Mask ∷ rest) e = same_all is_argument argument_as rest ∙ e
  call_kept os e = absurd cc

  held_call_kept : (os : List Operand) → fits_held_call os ≡ true → fits_held_call (operands_as ids os) ≡ true
  held_call_kept (Use r ∷ Mask ∷ rest) e = same_all is_argument argument_as rest ∙ e
  held_call_kept os e = absurd cc

  gone_kept : (os : List Operand) → fits_gone os ≡ true → fits_gone (operands_as ids os) ≡ true
  gone_kept (Symbol name ∷ Mask ∷ rest) e = same_all is_last_argument last_as rest ∙ e
  gone_kept os e = absurd cc

  held_gone_kept : (os : List Operand) → fits_held_gone os ≡ true → fits_held_gone (operands_as ids os) ≡ true
  held_gone_kept (ImplicitUse r ∷ Mask ∷ rest) e = ap (λ (c : Bool). is_call_register r && c) (same_all is_last_argument last_as rest) ∙ e
  held_gone_kept os e = absurd cc

  tail_kept : (os : List Operand) → fits_tail os ≡ true → fits_tail (operands_as ids os) ≡ true
  tail_kept (Symbol name ∷ rest) e = same_all is_tail_use tail_as rest ∙ e
  tail_kept os e = absurd cc

  held_tail_kept : (os : List Operand) → fits_held_tail os ≡ true → fits_held_tail (operands_as ids os) ≡ true
  held_tail_kept (ImplicitUse r ∷ rest) e = ap (λ (c : Bool). is_held_tail_register r && c) (same_all is_held_tail_use held_tail_as rest) ∙ e
  held_tail_kept os e = absurd cc

  pub form_kept : (op : Op) (os : List Operand) → has_form op os ≡ true → has_form op (operands_as ids os) ≡ true
  form_kept (Registers op) os e = registers_kept os e
  form_kept (Immediate op) os e = immediate_kept op os e
  form_kept Lui os e = upper_kept os e
  form_kept (Branch op) os e = branch_kept os e
  form_kept (Load op) os e = load_kept op os e
  form_kept (Store op) os e = store_kept op os e
  form_kept Copy os e = copy_kept os e
  form_kept PseudoBr os e = jump_kept os e
  form_kept PseudoCall os e = call_kept os e
  form_kept PseudoRet os e = same_all is_result result_as os ∙ e
  form_kept PseudoCallIndirect os e = held_call_kept os e
  form_kept PseudoTail os e = tail_kept os e
  form_kept PseudoTailIndirect os e = held_tail_kept os e
  form_kept NoReturnCall os e = gone_kept os e
  form_kept NoReturnCallIndirect os e = held_gone_kept os e

  -- an instruction is renamed
  pub renamed : (i : Instruction) → has_form i.op i.operands ≡ true → instr_as ids i ≡ record i { operands = operands_as ids i.operands }
  renamed i form = cond-true (has_form i.op (operands_as ids i.operands)) (record i { operands = operands_as ids i.operands }) i
      (form_kept i.op i.operands form)

-- ---- an instruction names one object at most

abbrev pub ObjectsAre : Option ℕ → Operand → Type 0
ObjectsAre found (Object n) = found ≡ Some n
ObjectsAre found o = Unit {0}

module _ (found : Option ℕ) where
  abbrev P : Operand → Type 0
  P = ObjectsAre found

  implicit_one : (o : Operand) → is_implicit o ≡ true → P o
  implicit_one (Object n) e = absurd cc
  implicit_one o e = tt

  argument_one : (o : Operand) → is_argument o ≡ true → P o
  argument_one (Object n) e = absurd cc
  argument_one o e = tt

  result_one : (o : Operand) → is_result o ≡ true → P o
  result_one (Object n) e = absurd cc
  result_one o e = tt

  tail_one : (o : Operand) → is_held_tail_use o ≡ true → P o
  tail_one (Object n) e = absurd cc
  tail_one o e = tt

  all_one : (p : Operand → Bool) → ((o : Operand) → p o ≡ true → P o) → (os : List Operand) → list_all p os ≡ true → All P os
  all_one p each [] e = All-nil P
  all_one p each (o ∷ os) e = let parts = and_parts (p o) (list_all p os) e in All-cons P o os (each o parts.0) (all_one p each os parts.1)

  rest_one : (os : List Operand) → list_all is_implicit os ≡ true → All P os
  rest_one os e = all_one is_implicit implicit_one os e

  one_before : (a : Operand) (rest : List Operand) → P a → All P rest → All P (a ∷ rest)
  one_before a rest p all = All-cons P a rest p all

  two_before : (a b : Operand) (rest : List Operand) → P a → P b → All P rest → All P (a ∷ b ∷ rest)
  two_before a b rest p q all = one_before a (b ∷ rest) p (one_before b rest q all)

  three_before : (a b c : Operand) (rest : List Operand) → P a → P b → P c → All P rest → All P (a ∷ b ∷ c ∷ rest)
  three_before a b c rest p q r all = one_before a (b ∷ c ∷ rest) p (two_before b c rest q r all)

immediate_object : (op : ImmediateOp) (os : List Operand) → fits_immediate op os ≡ true →
    All (ObjectsAre (row_object (row_of (record { op = Immediate op; operands = os; volatile = false })))) os
immediate_object op (Def rd ∷ Use a ∷ Imm i ∷ rest) e =
    three_before _ (Def rd) (Use a) (Imm i) rest tt tt tt (rest_one _ rest (and_parts (is_immediate op i) (list_all is_implicit rest) e).1)
immediate_object Addi (Def rd ∷ Object n ∷ Imm i ∷ rest) e =
    three_before _ (Def rd) (Object n) (Imm i) rest tt refl tt (rest_one _ rest (and_parts (is_immediate Addi i) (list_all is_implicit rest) e).1)
immediate_object op (Def rd ∷ Object n ∷ Imm i ∷ rest) e = absurd cc
immediate_object op (Def rd ∷ Use a ∷ Part Lower y ∷ rest) e =
    three_before _ (Def rd) (Use a) (Part Lower y) rest tt tt tt (rest_one _ rest (and_parts (is_addi op) (list_all is_implicit rest) e).1)
immediate_object op os e = absurd cc

load_object : (op : LoadOp) (os : List Operand) → fits_load op os ≡ true → All (ObjectsAre (row_object (row_of (record { op = Load op; operands = os; volatile = false })))) os
load_object op (Def rd ∷ Use a ∷ Imm i ∷ rest) e =
    three_before _ (Def rd) (Use a) (Imm i) rest tt tt tt (rest_one _ rest (and_parts (has_12_bits i) (list_all is_implicit rest) e).1)
load_object op (Def rd ∷ Slot n ∷ Imm i ∷ rest) e =
    three_before _ (Def rd) (Slot n) (Imm i) rest tt tt tt (rest_one _ rest (and_parts (moves_slot (load_width op) i) (list_all is_implicit rest) e).1)
load_object op (Def rd ∷ Object n ∷ Imm i ∷ rest) e =
    three_before _ (Def rd) (Object n) (Imm i) rest tt refl tt (rest_one _ rest (and_parts (has_12_bits i) (list_all is_implicit rest) e).1)
load_object op (Def rd ∷ Use a ∷ Part Lower y ∷ rest) e =
    three_before _ (Def rd) (Use a) (Part Lower y) rest tt tt tt (rest_one _ rest e)
load_object op os e = absurd cc

store_object : (op : StoreOp) (os : List Operand) → fits_store op os ≡ true →
    All (ObjectsAre (row_object (row_of (record { op = Store op; operands = os; volatile = false })))) os
store_object op (Use rs ∷ Use a ∷ Imm i ∷ rest) e =
    three_before _ (Use rs) (Use a) (Imm i) rest tt tt tt (rest_one _ rest (and_parts (has_12_bits i) (list_all is_implicit rest) e).1)
store_object op (Use rs ∷ Slot n ∷ Imm i ∷ rest) e =
    three_before _ (Use rs) (Slot n) (Imm i) rest tt tt tt (rest_one _ rest (and_parts (moves_slot (store_width op) i) (list_all is_implicit rest) e).1)
store_object op (Use rs ∷ Object n ∷ Imm i ∷ rest) e =
    three_before _ (Use rs) (Object n) (Imm i) rest tt refl tt (rest_one _ rest (and_parts (has_12_bits i) (list_all is_implicit rest) e).1)
store_object op (Use rs ∷ Use a ∷ Part Lower y ∷ rest) e =
    three_before _ (Use rs) (Use a) (Part Lower y) rest tt tt tt (rest_one _ rest e)
store_object op os e = absurd cc

-- in code that has its form, each object is the one that its row names
pub one_object : (op : Op) (os : List Operand) → has_form op os ≡ true → All (ObjectsAre (row_object (row_of (record { op = op; operands = os; volatile = false })))) os
one_object (Registers op) (Def rd ∷ Use a ∷ Use b ∷ rest) e = three_before _ (Def rd) (Use a) (Use b) rest tt tt tt (rest_one _ rest e)
one_object (Immediate op) os e = immediate_object op os e
one_object Lui (Def rd ∷ Imm i ∷ rest) e = two_before _ (Def rd) (Imm i) rest tt tt (rest_one _ rest (and_parts (is_within (pos 0) (pos 1048575) i)
    (list_all is_implicit rest) e).1)
one_object Lui (Def rd ∷ Part Upper y ∷ rest) e = two_before _ (Def rd) (Part Upper y) rest tt tt (rest_one _ rest e)
one_object (Branch op) (Use a ∷ Use b ∷ Block n ∷ rest) e = three_before _ (Use a) (Use b) (Block n) rest tt tt tt (rest_one _ rest e)
one_object (Load op) os e = load_object op os e
one_object (Store op) os e = store_object op os e
one_object Copy (Def rd ∷ Use rs ∷ rest) e = two_before _ (Def rd) (Use rs) rest tt tt (rest_one _ rest e)
one_object PseudoBr (Block n ∷ rest) e = one_before _ (Block n) rest tt (rest_one _ rest e)
one_object PseudoCall (Symbol name ∷ Mask ∷ rest) e = two_before _ (Symbol name) Mask rest tt tt (all_one _ is_argument (argument_one _) rest e)
one_object PseudoRet os e = all_one _ is_result (result_one _) os e
one_object PseudoCallIndirect (Use r ∷ Mask ∷ rest) e = two_before _ (Use r) Mask rest tt tt (all_one _ is_argument (argument_one _) rest e)
one_object PseudoTail (Symbol name ∷ rest) e = one_before _ (Symbol name) rest tt (all_one _ is_held_tail_use (tail_one _) rest (held_tail_uses rest e))
one_object PseudoTailIndirect (ImplicitUse r ∷ rest) e =
    one_before _ (ImplicitUse r) rest tt (all_one _ is_held_tail_use (tail_one _) rest (and_parts (is_held_tail_register r)
    (list_all is_held_tail_use rest) e).1)
one_object NoReturnCall (Symbol name ∷ Mask ∷ rest) e =
    two_before _ (Symbol name) Mask rest tt tt (all_one _ is_argument (argument_one _) rest (last_arguments rest e))
one_object NoReturnCallIndirect (ImplicitUse r ∷ Mask ∷ rest) e =
    two_before _ (ImplicitUse r) Mask rest tt tt (all_one _ is_argument (argument_one _) rest
    (last_arguments rest (and_parts (is_call_register r) (list_all is_last_argument rest) e).1))
one_object _ os e = absurd cc
