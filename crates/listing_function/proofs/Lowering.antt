-- The operands that a slot or an object is listed by have the form of the opcode: the frame is so small that each offset from x2 is
-- one of 12 bits.
use Rattle.std.proofs.Common.{◌≡◌, ℕ, ◌+◌, ◌^◌, ◌<◌, ◌≤◌, ℤ, pos, negsuc, true, false, ◌&&◌, List, [], ◌∷◌}
use Rattle.std.proofs.Common.{refl, ap, ◌∙◌, arith}
use Rattle.std.specs.Prelude.{Contains, ◌+ℤ◌}
use Rattle.std.specs.List.{list_all}
use Rattle.std.proofs.lemmas.Bool.{and_parts}
use Rattle.std.proofs.lemmas.Bool.Decides.{nat_tests}
use Rattle.std.proofs.lemmas.Int.{ints}
use Rattle.std.proofs.lemmas.List.Elements.{All-contains}
use Rattle.rv64_instr.specs.declared.op.Op.{Op}
use Rattle.rv64_instr.specs.declared.op.Op.TheVariants.{Registers, Immediate, Lui, Branch, Load, Store, Copy}
use Rattle.rv64_instr.specs.declared.op.Op.TheVariants.{PseudoBr, PseudoCall, PseudoRet, PseudoCallIndirect}
use Rattle.rv64_instr.specs.declared.op.Op.TheVariants.{PseudoTail, PseudoTailIndirect, NoReturnCall, NoReturnCallIndirect}
use Rattle.rv64_instr.specs.declared.op.ImmediateOp.{ImmediateOp}
use Rattle.rv64_instr.specs.declared.op.ImmediateOp.TheVariants.{Addi, Slti, Sltiu, Xori, Ori, Andi, Slli, Srli, Srai, Addiw, Slliw, Srliw, Sraiw}
use Rattle.rv64_instr.specs.declared.op.LoadOp.{LoadOp}
use Rattle.rv64_instr.specs.declared.op.StoreOp.{StoreOp}
use Rattle.rv64_instr.specs.declared.operand.Operand.{Operand}
use Rattle.rv64_instr.specs.declared.operand.Operand.TheVariants.{Def, Use, ImplicitDef, ImplicitUse, Imm, Slot, Object as OfObject, Part, Block, Symbol, Mask}
use Rattle.rv64_instr.specs.declared.operand.Operand.TheVariants.{GlobalRegisters}
use Rattle.rv64_instr.specs.declared.symbol.Half.TheVariants.{Upper, Lower}
use Rattle.rv64_instr.specs.Arithmetic.{word, load_width, store_width}
use Rattle.rv64_instr.specs.Form.{has_12_bits, is_implicit, is_result, moves_slot, is_addi, is_immediate, has_form}
use Rattle.rv64_instr.specs.Form.{fits_registers, fits_immediate, fits_upper, fits_branch, fits_load, fits_store, fits_copy, fits_jump}
use Rattle.rv64_instr.specs.Form.{fits_call, fits_gone, fits_held_gone, is_held_tail_use, is_held_tail_register, fits_held_call, fits_tail, fits_held_tail}
use Rattle.rv64_instr.proofs.Tails.{held_tail_uses}
use Rattle.rv64_instr.specs.Row.{row_by, load_row, store_row, number_row}
use Rattle.rv64_instr.specs.View.{access_of}
use Rattle.mir_func.specs.Function.{FramedFunction}
use Rattle.mir_func.specs.Objects.{offset_of}
use Rattle.mir_func.specs.Sound.{HasBytes, SlotIn, ObjectIn}
use Rattle.mir_func.specs.SoundFrame.{own_size, slot_offsets, AccessReaches, IsFramed, IsSlotOffset}
use Rattle.emit_code.specs.Listed.{by_pointer}
use Rattle.mir_func.proofs.Ends.{bytes_within}
use Rattle.listing_meaning.proofs.Operands.{Added, added, added_in, small, tiny, results_stay}

-- ---- numbers

fits_low : (n : ℕ) → n ≤ 2047 → has_12_bits (pos n) ≡ true
fits_low n low = grind (arith, nat_tests, ints)

fits_below : (n k : ℕ) → n ≤ 2047 → k ≤ 2047 → has_12_bits (pos n +ℤ negsuc k) ≡ true
fits_below n k low small = grind (arith, nat_tests, ints)

module _ (f : FramedFunction) (framed : IsFramed f) where
  room_of : (n bytes : ℕ) → HasBytes f.objects n bytes → own_size f + offset_of f.objects n + bytes ≤ 2047
  room_of n bytes has =
      let within = bytes_within f.objects n bytes has in
      let reach = framed.reach in
      omega (arith, within, reach)

  slot_low : (n : ℕ) → Contains (slot_offsets f) n → n ≤ 2047
  slot_low n has =
      let at = (All-contains (IsSlotOffset f) (slot_offsets f) n framed.offsets has).1 in
      let size = framed.small in
      omega (arith, at, size)

  -- ---- 12 bits

  slot_fits : (n : ℕ) (rest : List Operand) → Contains (slot_offsets f) n → list_all is_implicit rest ≡ true →
      (has_12_bits (pos n) && list_all is_implicit rest) ≡ true
  slot_fits n rest has all = (λ j. fits_low n (slot_low n has) j && list_all is_implicit rest) ∙ all

  object_bits : (n extra : ℕ) (i : ℤ) → HasBytes f.objects n (word i + extra) → Added i → has_12_bits (pos (own_size f + offset_of f.objects n) +ℤ i) ≡ true
  object_bits n extra i has (added m same) =
      fits_low (own_size f + offset_of f.objects n + m) (omega (arith, room_of n (word (pos m) + extra) has, same))

  object_fits : (n extra : ℕ) (i : ℤ) (rest : List Operand) → HasBytes f.objects n (word i + extra) → has_12_bits i ≡ true → list_all is_implicit rest ≡ true →
      (has_12_bits (pos (own_size f + offset_of f.objects n) +ℤ i) && list_all is_implicit rest) ≡ true
  object_fits n extra i rest has bits all =
      (λ j. object_bits n extra i has (added_in f framed n extra i bits has) j && list_all is_implicit rest) ∙ all

  -- an address, which lies low enough above x2 if it doesn't lie below its object
  address_bits : (n : ℕ) (i : ℤ) → HasBytes f.objects n 0 → has_12_bits i ≡ true →
      (word i < 2 ^ 63 → own_size f + offset_of f.objects n + word i ≤ 2032) → has_12_bits (pos (own_size f + offset_of f.objects n) +ℤ i) ≡ true
  address_bits n (pos m) has bits reaches =
      let small = tiny m bits in
      let sum = reaches (omega (arith, small)) in
      fits_low (own_size f + offset_of f.objects n + m) (omega (arith, small, sum))
  address_bits n (negsuc k) has bits reaches =
      let low = room_of n 0 has in
      let less = small k bits in
      fits_below (own_size f + offset_of f.objects n) k (omega (arith, low)) (omega (arith, less))

  -- ---- of each opcode

  load_formed : (op : LoadOp) (os : List Operand) → fits_load op os ≡ true → SlotIn (slot_offsets f) (load_row op os) → ObjectIn f.objects (load_row op os) →
      fits_load op (by_pointer f os) ≡ true
  load_formed op (Def rd ∷ Use b ∷ Imm i ∷ rest) form slots objects = form
  load_formed op (Def rd ∷ Slot n ∷ Imm i ∷ rest) form slots objects =
      slot_fits n rest slots (and_parts (moves_slot (load_width op) i) (list_all is_implicit rest) form).1
  load_formed op (Def rd ∷ OfObject n ∷ Imm i ∷ rest) form slots objects =
      let both = and_parts (has_12_bits i) (list_all is_implicit rest) form in
      object_fits n (load_width op) i rest objects both.0 both.1
  load_formed op (Def rd ∷ Use b ∷ Part Lower y ∷ rest) form slots objects = form
  load_formed op os form slots objects = absurd cc

  store_formed : (op : StoreOp) (os : List Operand) → fits_store op os ≡ true → SlotIn (slot_offsets f) (store_row op os) →
      ObjectIn f.objects (store_row op os) → fits_store op (by_pointer f os) ≡ true
  store_formed op (Use rs ∷ Use b ∷ Imm i ∷ rest) form slots objects = form
  store_formed op (Use rs ∷ Slot n ∷ Imm i ∷ rest) form slots objects =
      slot_fits n rest slots (and_parts (moves_slot (store_width op) i) (list_all is_implicit rest) form).1
  store_formed op (Use rs ∷ OfObject n ∷ Imm i ∷ rest) form slots objects =
      let both = and_parts (has_12_bits i) (list_all is_implicit rest) form in
      object_fits n (store_width op) i rest objects both.0 both.1
  store_formed op (Use rs ∷ Use b ∷ Part Lower y ∷ rest) form slots objects = form
  store_formed op os form slots objects = absurd cc

  sum_formed : (os : List Operand) → fits_immediate Addi os ≡ true → ObjectIn f.objects (number_row Addi os) →
      AccessReaches (own_size f) f.objects (access_of (number_row Addi os)) → fits_immediate Addi (by_pointer f os) ≡ true
  sum_formed (Def rd ∷ Use b ∷ Imm i ∷ rest) form objects reaches = form
  sum_formed (Def rd ∷ OfObject n ∷ Imm i ∷ rest) form objects reaches =
      let both = and_parts (has_12_bits i) (list_all is_implicit rest) form in
      (λ j. address_bits n i objects both.0 reaches j && list_all is_implicit rest) ∙ both.1
  sum_formed (Def rd ∷ Use b ∷ Part Lower y ∷ rest) form objects reaches = form
  sum_formed os form objects reaches = absurd cc

  number_formed : (op : ImmediateOp) (os : List Operand) → fits_immediate op os ≡ true → is_addi op ≡ false → fits_immediate op (by_pointer f os) ≡ true
  number_formed op (Def rd ∷ Use b ∷ Imm i ∷ rest) form other = form
  number_formed op (Def rd ∷ OfObject n ∷ Imm i ∷ rest) form other =
      let is = (and_parts (is_addi op) (is_immediate op i) (and_parts (is_addi op && is_immediate op i) (list_all is_implicit rest) form).0).0 in
      absurd cc
  number_formed op (Def rd ∷ Use b ∷ Part Lower y ∷ rest) form other = form
  number_formed op os form other = absurd cc

  immediate_formed : (op : ImmediateOp) (os : List Operand) → fits_immediate op os ≡ true → ObjectIn f.objects (number_row op os) →
      AccessReaches (own_size f) f.objects (access_of (number_row op os)) → fits_immediate op (by_pointer f os) ≡ true
  immediate_formed Addi os form objects reaches = sum_formed os form objects reaches
  immediate_formed Slti os form objects reaches = number_formed Slti os form refl
  immediate_formed Sltiu os form objects reaches = number_formed Sltiu os form refl
  immediate_formed Xori os form objects reaches = number_formed Xori os form refl
  immediate_formed Ori os form objects reaches = number_formed Ori os form refl
  immediate_formed Andi os form objects reaches = number_formed Andi os form refl
  immediate_formed Slli os form objects reaches = number_formed Slli os form refl
  immediate_formed Srli os form objects reaches = number_formed Srli os form refl
  immediate_formed Srai os form objects reaches = number_formed Srai os form refl
  immediate_formed Addiw os form objects reaches = number_formed Addiw os form refl
  immediate_formed Slliw os form objects reaches = number_formed Slliw os form refl
  immediate_formed Srliw os form objects reaches = number_formed Srliw os form refl
  immediate_formed Sraiw os form objects reaches = number_formed Sraiw os form refl

  registers_formed : (os : List Operand) → fits_registers os ≡ true → fits_registers (by_pointer f os) ≡ true
  registers_formed (Def rd ∷ Use a ∷ Use b ∷ rest) form = form
  registers_formed os form = absurd cc

  upper_formed : (os : List Operand) → fits_upper os ≡ true → fits_upper (by_pointer f os) ≡ true
  upper_formed (Def rd ∷ Imm i ∷ rest) form = form
  upper_formed (Def rd ∷ Part Upper y ∷ rest) form = form
  upper_formed os form = absurd cc

  branch_formed : (os : List Operand) → fits_branch os ≡ true → fits_branch (by_pointer f os) ≡ true
  branch_formed (Use a ∷ Use b ∷ Block n ∷ rest) form = form
  branch_formed os form = absurd cc

  copy_formed : (os : List Operand) → fits_copy os ≡ true → fits_copy (by_pointer f os) ≡ true
  copy_formed (Def rd ∷ Use a ∷ rest) form = form
  copy_formed os form = absurd cc

  behind_block : (n : ℕ) (os : List Operand) → list_all is_implicit os ≡ true → fits_jump (by_pointer f (Block n ∷ os)) ≡ true
  behind_block n [] all = all
  behind_block n (ImplicitDef r ∷ os) all = all
  behind_block n (ImplicitUse r ∷ os) all = all
  behind_block n (o ∷ os) all = absurd cc

  jump_formed : (os : List Operand) → fits_jump os ≡ true → fits_jump (by_pointer f os) ≡ true
  jump_formed (Block n ∷ rest) form = behind_block n rest form
  jump_formed os form = absurd cc

  call_formed : (os : List Operand) → fits_call os ≡ true → fits_call (by_pointer f os) ≡ true
  call_formed (Symbol name ∷ Mask ∷ rest) form = form
  call_formed os form = absurd cc

  behind_tail : (x : Operand) (os : List Operand) → list_all is_held_tail_use os ≡ true → by_pointer f (x ∷ os) ≡ x ∷ os
  behind_tail x [] all = refl
  behind_tail x (ImplicitUse r ∷ os) all = refl
  behind_tail x (GlobalRegisters ∷ os) all = refl
  behind_tail x (o ∷ os) all = absurd cc

  held_call_formed : (os : List Operand) → fits_held_call os ≡ true → fits_held_call (by_pointer f os) ≡ true
  held_call_formed (Use r ∷ Mask ∷ rest) form = form
  held_call_formed os form = absurd cc

  gone_formed : (os : List Operand) → fits_gone os ≡ true → fits_gone (by_pointer f os) ≡ true
  gone_formed (Symbol name ∷ Mask ∷ rest) form = form
  gone_formed os form = absurd cc

  held_gone_formed : (os : List Operand) → fits_held_gone os ≡ true → fits_held_gone (by_pointer f os) ≡ true
  held_gone_formed (ImplicitUse r ∷ Mask ∷ rest) form = form
  held_gone_formed os form = absurd cc

  tail_formed : (os : List Operand) → fits_tail os ≡ true → fits_tail (by_pointer f os) ≡ true
  tail_formed (Symbol name ∷ rest) form = ap fits_tail (behind_tail (Symbol name) rest (held_tail_uses rest form)) ∙ form
  tail_formed os form = absurd cc

  held_tail_formed : (os : List Operand) → fits_held_tail os ≡ true → fits_held_tail (by_pointer f os) ≡ true
  held_tail_formed (ImplicitUse r ∷ rest) form =
      ap fits_held_tail (behind_tail (ImplicitUse r) rest (and_parts (is_held_tail_register r) (list_all is_held_tail_use rest) form).1) ∙ form
  held_tail_formed os form = absurd cc

  pub operands_formed : (op : Op) (os : List Operand) → has_form op os ≡ true → SlotIn (slot_offsets f) (row_by op os) → ObjectIn f.objects (row_by op os) →
      AccessReaches (own_size f) f.objects (access_of (row_by op os)) → has_form op (by_pointer f os) ≡ true
  operands_formed (Registers op) os form slots objects reaches = registers_formed os form
  operands_formed (Immediate op) os form slots objects reaches = immediate_formed op os form objects reaches
  operands_formed Lui os form slots objects reaches = upper_formed os form
  operands_formed (Branch op) os form slots objects reaches = branch_formed os form
  operands_formed (Load op) os form slots objects reaches = load_formed op os form slots objects
  operands_formed (Store op) os form slots objects reaches = store_formed op os form slots objects
  operands_formed Copy os form slots objects reaches = copy_formed os form
  operands_formed PseudoBr os form slots objects reaches = jump_formed os form
  operands_formed PseudoCall os form slots objects reaches = call_formed os form
  operands_formed PseudoCallIndirect os form slots objects reaches = held_call_formed os form
  operands_formed PseudoTail os form slots objects reaches = tail_formed os form
  operands_formed PseudoTailIndirect os form slots objects reaches = held_tail_formed os form
  operands_formed NoReturnCall os form slots objects reaches = gone_formed os form
  operands_formed NoReturnCallIndirect os form slots objects reaches = held_gone_formed os form
  operands_formed PseudoRet os form slots objects reaches = ap (list_all is_result) (results_stay f framed os form) ∙ form
