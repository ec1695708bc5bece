-- Code that a line means is judged again so.
use Rattle.std.proofs.Common.{◌≡◌, ℕ, ℤ, Bool, true, false, ◌&&◌, List, [], ◌∷◌, map, Some, refl, sym, ap, subst, ◌∙◌}
use Rattle.std.specs.List.{list_all, list_any, zip}
use Rattle.std.proofs.lemmas.Bool.{and_parts, or_parts}
use Rattle.rv64_instr.specs.declared.op.Op.{Op}
use Rattle.rv64_instr.specs.declared.op.Op.TheVariants.{Registers, Immediate, Lui, Branch, Load, Store, Copy}
use Rattle.rv64_instr.specs.declared.op.Op.TheVariants.{PseudoBr, PseudoCall, PseudoRet, PseudoCallIndirect}
use Rattle.rv64_instr.specs.declared.op.Op.TheVariants.{PseudoTail, PseudoTailIndirect, NoReturnCall, NoReturnCallIndirect}
use Rattle.rv64_instr.specs.declared.op.ImmediateOp.{ImmediateOp}
use Rattle.rv64_instr.specs.declared.op.LoadOp.{LoadOp}
use Rattle.rv64_instr.specs.declared.op.StoreOp.{StoreOp}
use Rattle.rv64_instr.specs.declared.operand.Operand.{Operand}
use Rattle.rv64_instr.specs.declared.operand.Operand.TheVariants.{Def, Use, Imm, Slot, Object, Part, Block, Symbol, Mask, ImplicitUse}
use Rattle.rv64_instr.specs.declared.symbol.Half.TheVariants.{Upper, Lower}
use Rattle.rv64_instr.specs.Arithmetic.{load_width, store_width}
use Rattle.rv64_instr.specs.Form.{is_within, has_12_bits, is_immediate, is_addi, moves_slot, is_implicit, fits_registers, fits_immediate, fits_upper}
use Rattle.rv64_instr.specs.Form.{fits_branch, fits_load, fits_store, fits_copy, fits_jump, fits_call, has_form}
use Rattle.rv64_instr.specs.Form.{is_held_tail_use, is_held_tail_register, fits_held_call, fits_held_gone, fits_tail, fits_held_tail}
use Rattle.rv64_instr.proofs.Tails.{gone_calls, held_gone_arguments, held_tail_uses}
use Rattle.std.specs.Prelude.{pos}
use Rattle.read_line.specs.declared.form.ItemForm.{ItemForm}
use Rattle.read_line.specs.declared.form.OperandForm.{OperandForm}
use Rattle.read_item.specs.declared.place.OperandKind.TheVariants as place
use Rattle.read_item.specs.Code.{definitions, placed, names_slot, places_of, operands_of, is_misplaced, operand_at}
use Rattle.read_item.specs.Place.{address}
use Rattle.read_program.specs.Objects.{operand_as, operands_as}
use Rattle.read_program.proofs.Judged.{code_line}
use Rattle.read_program.proofs.Printed.{renamed}
use Rattle.mir_printer.specs.Printable.{as_slot}
use Rattle.readback_items.specs.Code.{judged_operands, judged_instruction}
use Rattle.readback_items.specs.Again.{is_fixed, CodeIsJudgedAgain}
use Rattle.readback_items.proofs.Access.{parts, joined_some, uses_of_store, uses_of_load, object_access}
use Rattle.readback_items.proofs.Same.{Stays, stays_more, implicits_stay, arguments_stay, results_stay, stays_judged, slot_named}
use Rattle.readback_items.proofs.Same.{slots_judged, objects_judged, tails_stay}

-- operands as a line has them
record FromLine (op : Op) (line : ItemForm) (os : List Operand) : Type 0 where
  operands : operands_of op line ≡ Some os
  in_place : list_any is_misplaced (zip (places_of op line) line.operands) ≡ false
  plain : list_any is_fixed line.operands ≡ false

-- the address and the number of a store, behind the register
behind_source : (op : StoreOp) (rs n : ℕ) (i : ℤ) (rest : List Operand) (us : List OperandForm) →
    placed (place.Register ∷ address (names_slot (Store op) us) ∷ place.Number ∷ []) us ≡ Some (Use rs ∷ Object n ∷ Imm i ∷ rest) →
    list_any is_misplaced (zip (place.Register ∷ address (names_slot (Store op) us) ∷ place.Number ∷ []) us) ≡ false → list_any is_fixed us ≡ false →
    moves_slot (store_width op) i ≡ false
unfolding placed
behind_source op rs n i rest [] e in_place plain = absurd cc
behind_source op rs n i rest (u ∷ us) e in_place plain =
    let slot = names_slot (Store op) (u ∷ us) in
    let p = parts (operand_at place.Register u) (placed (address slot ∷ place.Number ∷ []) us) (Use rs) (Object n ∷ Imm i ∷ rest) e in
    let later = or_parts (is_misplaced (place.Register, u)) (list_any is_misplaced (zip (address slot ∷ place.Number ∷ []) us)) in_place in
    let others = (or_parts (is_fixed u) (list_any is_fixed us) plain).1 in
    object_access (store_width op) n i rest us slot p.rest_is later.1 others (λ v w ws is. ap (λ (l : List OperandForm). names_slot (Store op) (u ∷ l)) is)

module _ (ids : List ℕ) where
  abbrev Again : Op → List Operand → Type 0
  Again op os = judged_operands op (operands_as ids os) ≡ os

  behind : (b : Bool) (rest : List Operand) → (b && list_all is_implicit rest) ≡ true → Stays ids rest
  behind b rest e = implicits_stay ids rest (and_parts b (list_all is_implicit rest) e).1

  three : (op : Op) (a b c : Operand) (rest : List Operand) → Stays ids (a ∷ b ∷ c ∷ rest) → Again op (a ∷ b ∷ c ∷ rest)
  three op a b c rest s = stays_judged ids op (a ∷ b ∷ c ∷ rest) s

  registers : (os : List Operand) → fits_registers os ≡ true → Stays ids os
  registers (Def rd ∷ Use a ∷ Use b ∷ rest) e =
      stays_more ids (Def rd) (Use a ∷ Use b ∷ rest) tt (stays_more ids (Use a) (Use b ∷ rest) tt (stays_more ids (Use b) rest tt (implicits_stay ids rest e)))
  registers os e = absurd cc

  upper : (os : List Operand) → fits_upper os ≡ true → Stays ids os
  upper (Def rd ∷ Imm i ∷ rest) e =
      stays_more ids (Def rd) (Imm i ∷ rest) tt (stays_more ids (Imm i) rest tt (behind (is_within (pos 0) (pos 1048575) i) rest e))
  upper (Def rd ∷ Part Upper y ∷ rest) e =
      stays_more ids (Def rd) (Part Upper y ∷ rest) tt (stays_more ids (Part Upper y) rest tt (implicits_stay ids rest e))
  upper os e = absurd cc

  branch : (os : List Operand) → fits_branch os ≡ true → Stays ids os
  branch (Use a ∷ Use b ∷ Block n ∷ rest) e =
      stays_more ids (Use a) (Use b ∷ Block n ∷ rest) tt
      (stays_more ids (Use b) (Block n ∷ rest) tt (stays_more ids (Block n) rest tt (implicits_stay ids rest e)))
  branch os e = absurd cc

  copy : (os : List Operand) → fits_copy os ≡ true → Stays ids os
  copy (Def rd ∷ Use rs ∷ rest) e = stays_more ids (Def rd) (Use rs ∷ rest) tt (stays_more ids (Use rs) rest tt (implicits_stay ids rest e))
  copy os e = absurd cc

  jump : (os : List Operand) → fits_jump os ≡ true → Stays ids os
  jump (Block n ∷ rest) e = stays_more ids (Block n) rest tt (implicits_stay ids rest e)
  jump os e = absurd cc

  call : (os : List Operand) → fits_call os ≡ true → Stays ids os
  call (Symbol name ∷ Mask ∷ rest) e = stays_more ids (Symbol name) (Mask ∷ rest) tt (stays_more ids Mask rest tt (arguments_stay ids rest e))
  call os e = absurd cc

  -- ---- stack entries

  immediate : (op : ImmediateOp) (os : List Operand) → fits_immediate op os ≡ true → Again (Immediate op) os
  immediate op (Def rd ∷ Use a ∷ Imm i ∷ rest) e =
      three (Immediate op) (Def rd) (Use a) (Imm i) rest
      (stays_more ids (Def rd) (Use a ∷ Imm i ∷ rest) tt (stays_more ids (Use a) (Imm i ∷ rest) tt (stays_more ids (Imm i) rest tt
      (behind (is_immediate op i) rest e))))
  immediate op (Def rd ∷ Object n ∷ Imm i ∷ rest) e =
      let s = behind (is_addi op && is_immediate op i) rest e in
      ap (λ (l : List Operand). judged_operands (Immediate op) (Def rd ∷ Object n ∷ Imm i ∷ l)) s.named
      ∙ objects_judged ids (Immediate op) (Def rd ∷ Object n ∷ Imm i ∷ rest) refl
  immediate op (Def rd ∷ Use a ∷ Part Lower y ∷ rest) e =
      three (Immediate op) (Def rd) (Use a) (Part Lower y) rest
      (stays_more ids (Def rd) (Use a ∷ Part Lower y ∷ rest) tt (stays_more ids (Use a) (Part Lower y ∷ rest) tt (stays_more ids (Part Lower y) rest tt
      (behind (is_addi op) rest e))))
  immediate op os e = absurd cc

  load_object : (op : LoadOp) (rd n : ℕ) (i : ℤ) (rest : List Operand) (line : ItemForm) → FromLine (Load op) line (Def rd ∷ Object n ∷ Imm i ∷ rest) →
      moves_slot (load_width op) i ≡ false
  unfolding operands_of
  load_object op rd n i rest line from =
      let slot = names_slot (Load op) line.operands in
      let all = joined_some (definitions line.definitions) (placed (address slot ∷ place.Number ∷ []) line.operands) (Def rd ∷ Object n ∷ Imm i ∷ rest)
      from.operands in
      let uses = uses_of_load line.definitions (address slot ∷ place.Number ∷ []) line.operands all.0 all.1 rd n (Imm i ∷ rest) all.2 all.3 all.4 in
      object_access (load_width op) n i rest line.operands slot (all.3 ∙ ap (λ (l : List Operand). Some l) uses) from.in_place
      from.plain (λ u v ws is. ap (names_slot (Load op)) is)

  load : (op : LoadOp) (os : List Operand) (line : ItemForm) → FromLine (Load op) line os → fits_load op os ≡ true → Again (Load op) os
  load op (Def rd ∷ Use a ∷ Imm i ∷ rest) line from e =
      three (Load op) (Def rd) (Use a) (Imm i) rest
      (stays_more ids (Def rd) (Use a ∷ Imm i ∷ rest) tt (stays_more ids (Use a) (Imm i ∷ rest) tt (stays_more ids (Imm i) rest tt
      (behind (has_12_bits i) rest e))))
  load op (Def rd ∷ Slot n ∷ Imm i ∷ rest) line from e =
      let s = behind (moves_slot (load_width op) i) rest e in
      slots_judged ids (Load op) (Def rd ∷ Slot n ∷ Imm i ∷ rest) (Def rd ∷ operand_as ids (Slot n) ∷ Imm i ∷ operands_as ids rest)
      (ap (λ (o : Operand). Def rd ∷ o ∷ Imm i ∷ map as_slot (operands_as ids rest)) (slot_named ids n)
      ∙ ap (λ (l : List Operand). Def rd ∷ Slot n ∷ Imm i ∷ l) (ap (map as_slot) s.named ∙ s.slots)) e
  load op (Def rd ∷ Object n ∷ Imm i ∷ rest) line from e =
      let s = behind (has_12_bits i) rest e in
      let other = load_object op rd n i rest line from in
      ap (λ (l : List Operand). judged_operands (Load op) (Def rd ∷ Object n ∷ Imm i ∷ l)) s.named
      ∙ objects_judged ids (Load op) (Def rd ∷ Object n ∷ Imm i ∷ rest) (ap (λ (b : Bool). b && list_all is_implicit (map as_slot rest)) other)
  load op (Def rd ∷ Use a ∷ Part Lower y ∷ rest) line from e =
      three (Load op) (Def rd) (Use a) (Part Lower y) rest
      (stays_more ids (Def rd) (Use a ∷ Part Lower y ∷ rest) tt (stays_more ids (Use a) (Part Lower y ∷ rest) tt (stays_more ids (Part Lower y) rest tt
      (implicits_stay ids rest e))))
  load op os line from e = absurd cc

  store_object : (op : StoreOp) (rs n : ℕ) (i : ℤ) (rest : List Operand) (line : ItemForm) → FromLine (Store op) line (Use rs ∷ Object n ∷ Imm i ∷ rest) →
      moves_slot (store_width op) i ≡ false
  unfolding operands_of
  store_object op rs n i rest line from =
      let slot = names_slot (Store op) line.operands in
      let all = joined_some (definitions line.definitions) (placed (place.Register ∷ address slot ∷ place.Number ∷ []) line.operands)
      (Use rs ∷ Object n ∷ Imm i ∷ rest) from.operands in
      let uses = uses_of_store line.definitions all.0 all.1 rs (Object n ∷ Imm i ∷ rest) all.2 all.4 in
      behind_source op rs n i rest line.operands (all.3 ∙ ap (λ (l : List Operand). Some l) uses) from.in_place from.plain

  store : (op : StoreOp) (os : List Operand) (line : ItemForm) → FromLine (Store op) line os → fits_store op os ≡ true → Again (Store op) os
  store op (Use rs ∷ Use a ∷ Imm i ∷ rest) line from e =
      three (Store op) (Use rs) (Use a) (Imm i) rest
      (stays_more ids (Use rs) (Use a ∷ Imm i ∷ rest) tt (stays_more ids (Use a) (Imm i ∷ rest) tt (stays_more ids (Imm i) rest tt
      (behind (has_12_bits i) rest e))))
  store op (Use rs ∷ Slot n ∷ Imm i ∷ rest) line from e =
      let s = behind (moves_slot (store_width op) i) rest e in
      slots_judged ids (Store op) (Use rs ∷ Slot n ∷ Imm i ∷ rest) (Use rs ∷ operand_as ids (Slot n) ∷ Imm i ∷ operands_as ids rest)
      (ap (λ (o : Operand). Use rs ∷ o ∷ Imm i ∷ map as_slot (operands_as ids rest)) (slot_named ids n)
      ∙ ap (λ (l : List Operand). Use rs ∷ Slot n ∷ Imm i ∷ l) (ap (map as_slot) s.named ∙ s.slots)) e
  store op (Use rs ∷ Object n ∷ Imm i ∷ rest) line from e =
      let s = behind (has_12_bits i) rest e in
      let other = store_object op rs n i rest line from in
      ap (λ (l : List Operand). judged_operands (Store op) (Use rs ∷ Object n ∷ Imm i ∷ l)) s.named
      ∙ objects_judged ids (Store op) (Use rs ∷ Object n ∷ Imm i ∷ rest) (ap (λ (b : Bool). b && list_all is_implicit (map as_slot rest)) other)
  store op (Use rs ∷ Use a ∷ Part Lower y ∷ rest) line from e =
      three (Store op) (Use rs) (Use a) (Part Lower y) rest
      (stays_more ids (Use rs) (Use a ∷ Part Lower y ∷ rest) tt (stays_more ids (Use a) (Part Lower y ∷ rest) tt (stays_more ids (Part Lower y) rest tt
      (implicits_stay ids rest e))))
  store op os line from e = absurd cc

  held_call : (os : List Operand) → fits_held_call os ≡ true → Stays ids os
  held_call (Use r ∷ Mask ∷ rest) e = stays_more ids (Use r) (Mask ∷ rest) tt (stays_more ids Mask rest tt (arguments_stay ids rest e))
  held_call os e = absurd cc

  held_gone : (os : List Operand) → fits_held_gone os ≡ true → Stays ids os
  held_gone (ImplicitUse r ∷ Mask ∷ rest) e =
      stays_more ids (ImplicitUse r) (Mask ∷ rest) tt (stays_more ids Mask rest tt (arguments_stay ids rest (held_gone_arguments r rest e)))
  held_gone os e = absurd cc

  tail : (os : List Operand) → fits_tail os ≡ true → Stays ids os
  tail (Symbol name ∷ rest) e = stays_more ids (Symbol name) rest tt (tails_stay ids rest (held_tail_uses rest e))
  tail os e = absurd cc

  held_tail : (os : List Operand) → fits_held_tail os ≡ true → Stays ids os
  held_tail (ImplicitUse r ∷ rest) e =
      stays_more ids (ImplicitUse r) rest tt (tails_stay ids rest (and_parts (is_held_tail_register r) (list_all is_held_tail_use rest) e).1)
  held_tail os e = absurd cc

  -- ---- all

  again : (op : Op) (os : List Operand) (line : ItemForm) → FromLine op line os → has_form op os ≡ true → Again op os
  again (Registers op) os line from e = stays_judged ids (Registers op) os (registers os e)
  again (Immediate op) os line from e = immediate op os e
  again Lui os line from e = stays_judged ids Lui os (upper os e)
  again (Branch op) os line from e = stays_judged ids (Branch op) os (branch os e)
  again (Load op) os line from e = load op os line from e
  again (Store op) os line from e = store op os line from e
  again Copy os line from e = stays_judged ids Copy os (copy os e)
  again PseudoBr os line from e = stays_judged ids PseudoBr os (jump os e)
  again PseudoCall os line from e = stays_judged ids PseudoCall os (call os e)
  again PseudoRet os line from e = stays_judged ids PseudoRet os (results_stay ids os e)
  again PseudoCallIndirect os line from e = stays_judged ids PseudoCallIndirect os (held_call os e)
  again PseudoTail os line from e = stays_judged ids PseudoTail os (tail os e)
  again PseudoTailIndirect os line from e = stays_judged ids PseudoTailIndirect os (held_tail os e)
  again NoReturnCall os line from e = stays_judged ids NoReturnCall os (call os (gone_calls os e))
  again NoReturnCallIndirect os line from e = stays_judged ids NoReturnCallIndirect os (held_gone os e)

pub code_is_judged_again : CodeIsJudgedAgain
code_is_judged_again op line i ids plain e =
    let is = code_line op line i e in
    let form = subst (λ (o : Op). has_form o i.operands ≡ true) is.op_is is.form in
    let same = again ids op i.operands line (record { operands = is.operands; in_place = is.in_place; plain = plain }) form in
    ap judged_instruction (renamed ids i is.form)
    ∙ ap (λ (os : List Operand). record i { operands = os })
    (subst (λ (o : Op). judged_operands o (operands_as ids i.operands) ≡ i.operands) (sym is.op_is) same)
