-- The operands of code that is listed are raised to what they were, but that an access names the last object that has its byte.
use Rattle.std.proofs.Common.{◌≡◌, ℕ, zero, suc, ◌+◌, ◌-◌, ◌<◌, ◌≤◌, ℤ, pos, negsuc, ◌+ℤ◌, ◌-ℤ◌, Bool, true, false, ◌&&◌, cond, nat_eq, List, [], ◌∷◌}
use Rattle.std.proofs.Common.{◌++◌, Option, Some, refl, ap, sym, ◌∙◌, subst, arith}
use Rattle.std.specs.Prelude.{All, Contains}
use Rattle.std.specs.List.{list_all}
use Rattle.std.proofs.lemmas.Bool.{and_parts, ne_eqb, lt-ltb, lt-leb}
use Rattle.std.proofs.lemmas.Bool.Decides.{nat_tests}
use Rattle.std.proofs.lemmas.Int.{ints}
use Rattle.std.proofs.lemmas.List.Elements.{All-head, All-tail, All-contains}
use Rattle.rv64_instr.specs.declared.op.Op.{Op}
use Rattle.rv64_instr.specs.declared.op.Op.TheVariants.{Registers, Immediate, Lui, Branch, Load, Store, Copy}
use Rattle.rv64_instr.specs.declared.op.Op.TheVariants.{PseudoBr, PseudoCall, PseudoRet, PseudoCallIndirect}
use Rattle.rv64_instr.specs.declared.op.Op.TheVariants.{PseudoTail, PseudoTailIndirect, NoReturnCall, NoReturnCallIndirect}
use Rattle.rv64_instr.specs.declared.op.ImmediateOp.{ImmediateOp}
use Rattle.rv64_instr.specs.declared.op.ImmediateOp.TheVariants.{Addi, Slti, Sltiu, Xori, Ori, Andi, Slli, Srli, Srai, Addiw, Slliw, Srliw, Sraiw}
use Rattle.rv64_instr.specs.declared.op.LoadOp.{LoadOp}
use Rattle.rv64_instr.specs.declared.op.LoadOp.TheVariants.{Lb}
use Rattle.rv64_instr.specs.declared.op.StoreOp.{StoreOp}
use Rattle.rv64_instr.specs.declared.op.StoreOp.TheVariants.{Sd, Sb, Sh, Sw}
use Rattle.rv64_instr.specs.declared.operand.Operand.{Operand}
use Rattle.rv64_instr.specs.declared.operand.Operand.TheVariants.{Def, Use, ImplicitDef, ImplicitUse, Imm, Slot, Object as OfObject, Part, Block, Symbol, Mask}
use Rattle.rv64_instr.specs.declared.operand.Operand.TheVariants.{GlobalRegisters}
use Rattle.rv64_instr.specs.declared.symbol.Half.TheVariants.{Upper, Lower}
use Rattle.rv64_instr.specs.declared.symbol.LinkedAddress.{LinkedAddress}
use Rattle.rv64_instr.specs.declared.symbol.Half.{Half}
use Rattle.rv64_instr.specs.Arithmetic.{word, load_width, store_width}
use Rattle.rv64_instr.specs.Form.{is_within, has_12_bits, is_implicit, is_result, moves_slot, is_addi, is_immediate, has_form}
use Rattle.rv64_instr.specs.Form.{fits_registers, fits_immediate, fits_upper, fits_branch, fits_load, fits_store, fits_copy, fits_jump}
use Rattle.rv64_instr.specs.Form.{fits_call, is_held_tail_use, is_held_tail_register, fits_held_call, fits_held_gone, fits_tail, fits_held_tail}
use Rattle.rv64_instr.proofs.Tails.{gone_calls, held_tail_uses}
use Rattle.rv64_instr.specs.Row.{row_by, load_row, store_row, number_row}
use Rattle.mir_func.specs.declared.object.Object.{Object}
use Rattle.mir_func.specs.Function.{FramedFunction}
use Rattle.mir_func.specs.Objects.{object_of, offset_of, offset_or_zero}
use Rattle.mir_func.specs.Sound.{IsSoundObject, HasBytes, SlotIn, ObjectIn}
use Rattle.mir_func.specs.SoundFrame.{own_size, slot_offsets, IsFramed, IsSlotOffset}
use Rattle.emit_code.specs.Listed.{by_pointer}
use Rattle.listing_meaning.specs.Frame.{ShownObject, object_at, in_object, by_pointer as by_pointer_at, by_object, accessed, raised_operands, raised_load}
use Rattle.listing_meaning.specs.Frame.{raised_store}
use Rattle.listing_meaning.specs.Frame.{raised_sum, raised_number}
use Rattle.listing_meaning.specs.Frame.{first_object, or_object, object_near, addressed, address_at}
use Rattle.listing_meaning.specs.Settled.{object_placed, frame_of, settled_operands, settled_sum, settled_address, IsAlone, LeadsInside}
use Rattle.listing_meaning.proofs.Raising.{found_at, id_found}

-- an explicit x2 stands where x2 is lowered or raised alone
abbrev pub IsSteady : Op → List Operand → Type 0
IsSteady (Load op) (Def rd ∷ Use b ∷ rest) = b ≡ 2 → ⊥
IsSteady (Store op) (Use rs ∷ Use b ∷ rest) = b ≡ 2 → ⊥
IsSteady (Immediate op) (Def rd ∷ Use b ∷ rest) = b ≡ 2 → rd ≡ 2
IsSteady (Immediate op) (Def rd ∷ OfObject n ∷ rest) = rd ≡ 2 → ⊥
IsSteady op os = Unit {0}

-- ---- numbers

pub small : (k : ℕ) → has_12_bits (negsuc k) ≡ true → k < 2048
small k e = grind (arith, nat_tests, ints)

pub tiny : (m : ℕ) → has_12_bits (pos m) ≡ true → m < 2048
tiny m e = grind (arith, nat_tests, ints)

zero_only : (i : ℤ) → is_within (pos 0) (pos 0) i ≡ true → i ≡ pos 0
zero_only (pos n) e = let none : n ≡ 0 = grind (arith, nat_tests, ints) in ap pos none
zero_only (negsuc n) e = absurd (grind (arith, nat_tests, ints))

load_moves : (op : LoadOp) → 0 < load_width op
load_moves Lb = omega arith
load_moves _ = omega arith

store_moves : (op : StoreOp) → 0 < store_width op
store_moves Sb = omega arith
store_moves Sh = omega arith
store_moves Sw = omega arith
store_moves Sd = omega arith

sound_by : (p : Bool) (x o : Object) (rest : Option Object) → IsSoundObject x → (rest ≡ Some o → IsSoundObject o) → cond p (Some x) rest ≡ Some o →
    IsSoundObject o
sound_by true x o rest is more e = let same : x ≡ o = cc in subst IsSoundObject same is
sound_by false x o rest is more e = more e

sound_found : (os : List Object) (n : ℕ) (o : Object) → All IsSoundObject os → object_of os n ≡ Some o → IsSoundObject o
sound_found [] n o all e = absurd cc
sound_found (x ∷ os) n o all e =
    sound_by (nat_eq x.id n) x o (object_of os n) (All-head IsSoundObject x os all) (sound_found os n o (All-tail IsSoundObject x os all)) e

-- what is added in an object isn't negative, and is itself
pub data Added : ℤ → Type 0 where
  added : (m : ℕ) → word (pos m) ≡ m → Added (pos m)

difference : (a m : ℕ) → pos (a + m) -ℤ pos a ≡ pos m
difference a m = grind (arith, ints)

module _ (f : FramedFunction) (framed : IsFramed f) where
  pub added_in : (n extra : ℕ) (i : ℤ) → has_12_bits i ≡ true → HasBytes f.objects n (word i + extra) → Added i
  added_in n extra (pos m) bits has = let less = tiny m bits in added m (omega (arith, less))
  added_in n extra (negsuc k) bits (o, found, fits) =
      let less = small k bits in
      let sound = sound_found f.objects n o framed.each_object found in
      absurd (omega (arith, less, sound.size, fits))

  -- ---- what is found by how far it lies above x2

  slot_back : (n : ℕ) → n < own_size f → accessed (frame_of f) true n ≡ Slot n ∷ Imm (pos 0) ∷ []
  slot_back n low = ap (λ (q : Bool). cond q (Slot n ∷ Imm (pos 0) ∷ []) (by_object (frame_of f) n)) (lt-ltb n (own_size f) low)

  above : (p : Bool) (n : ℕ) → own_size f ≤ n → accessed (frame_of f) p n ≡ by_object (frame_of f) n
  above true n high = ap (λ (q : Bool). cond q (Slot n ∷ Imm (pos 0) ∷ []) (by_object (frame_of f) n)) (lt-leb (suc n) (own_size f) (omega (arith, high)))
  above false n high = ap (λ (q : Bool). cond q (Use 2 ∷ Imm (pos n) ∷ []) (by_object (frame_of f) n)) (lt-leb (suc n) (own_size f) (omega (arith, high)))

  object_back : (n m bytes : ℕ) → HasBytes f.objects n bytes → m < bytes → IsAlone f.objects n m →
      by_object (frame_of f) (own_size f + offset_of f.objects n + m) ≡ OfObject n ∷ Imm (pos m) ∷ []
  object_back n m bytes (o, found, fits) low alone =
      let at : offset_of f.objects n ≡ o.offset = ap offset_or_zero found in
      let over : own_size f + offset_of f.objects n + m - own_size f ≡ o.offset + m = omega (arith, at) in
      let stands = found_at f.objects n m o found (omega (arith, fits, low)) alone in
      let left : o.offset + m - o.offset ≡ m = omega arith in
      let rest = by_pointer_at (own_size f + offset_of f.objects n + m) in
      ap (λ (x : ℕ). in_object (object_at (frame_of f).objects x) x rest) over ∙
      (ap (λ (z : Option ShownObject). in_object z (o.offset + m) rest) stands ∙
      (ap (λ (x : ℕ). OfObject o.id ∷ Imm (pos x) ∷ []) left ∙ ap (λ (x : ℕ). OfObject x ∷ Imm (pos m) ∷ []) (id_found f.objects n o found)))

  -- ---- loads

  other_load : (op : LoadOp) (rd b : ℕ) (i : ℤ) (rest : List Operand) → (b ≡ 2 → ⊥) →
      raised_load (frame_of f) op (Def rd ∷ Use b ∷ Imm i ∷ rest) ≡ Def rd ∷ Use b ∷ Imm i ∷ rest
  other_load op rd zero i rest other = refl
  other_load op rd (suc zero) i rest other = refl
  other_load op rd (suc (suc zero)) i rest other = absurd (other refl)
  other_load op rd (suc (suc (suc b))) i rest other = refl

  part_load : (op : LoadOp) (rd b : ℕ) (half : Half) (y : LinkedAddress) (rest : List Operand) →
      raised_load (frame_of f) op (Def rd ∷ Use b ∷ Part half y ∷ rest) ≡ Def rd ∷ Use b ∷ Part half y ∷ rest
  part_load op rd zero half y rest = refl
  part_load op rd (suc zero) half y rest = refl
  part_load op rd (suc (suc zero)) half y rest = refl
  part_load op rd (suc (suc (suc b))) half y rest = refl

  slot_load : (op : LoadOp) (rd n : ℕ) (i : ℤ) (rest : List Operand) → moves_slot (load_width op) i ≡ true → Contains (slot_offsets f) n →
      raised_load (frame_of f) op (by_pointer f (Def rd ∷ Slot n ∷ Imm i ∷ rest)) ≡ Def rd ∷ Slot n ∷ Imm i ∷ rest
  slot_load op rd n i rest moves is =
      let both = and_parts (nat_eq (load_width op) 8) (is_within (pos 0) (pos 0) i) moves in
      ap (λ (p : Bool). Def rd ∷ accessed (frame_of f) p n ++ rest) both.0 ∙
      (ap (λ (os : List Operand). Def rd ∷ os ++ rest) (slot_back n (All-contains (IsSlotOffset f) (slot_offsets f) n framed.offsets is).1) ∙
      ap (λ (j : ℤ). Def rd ∷ Slot n ∷ Imm j ∷ rest) (sym (zero_only i both.1)))

  object_load : (op : LoadOp) (rd n : ℕ) (i : ℤ) (rest : List Operand) → Added i →
      raised_load (frame_of f) op (by_pointer f (Def rd ∷ OfObject n ∷ Imm i ∷ rest)) ≡ settled_sum f (Def rd ∷ OfObject n ∷ Imm i ∷ rest)
  object_load op rd n i rest (added m same) =
      ap (λ (os : List Operand). Def rd ∷ os ++ rest) (above (nat_eq (load_width op) 8) (own_size f + offset_of f.objects n + m) (omega arith))

  load_back : (op : LoadOp) (os : List Operand) → fits_load op os ≡ true → IsSteady (Load op) os → SlotIn (slot_offsets f) (load_row op os) →
      ObjectIn f.objects (load_row op os) → raised_load (frame_of f) op (by_pointer f os) ≡ settled_sum f os
  load_back op (Def rd ∷ Use b ∷ Imm i ∷ rest) form steady slots objects = other_load op rd b i rest steady
  load_back op (Def rd ∷ Slot n ∷ Imm i ∷ rest) form steady slots objects =
      slot_load op rd n i rest (and_parts (moves_slot (load_width op) i) (list_all is_implicit rest) form).0 slots
  load_back op (Def rd ∷ OfObject n ∷ Imm i ∷ rest) form steady slots objects =
      let bits = (and_parts (has_12_bits i) (list_all is_implicit rest) form).0 in
      object_load op rd n i rest (added_in n (load_width op) i bits objects)
  load_back op (Def rd ∷ Use b ∷ Part Lower y ∷ rest) form steady slots objects = part_load op rd b Lower y rest
  load_back op os form steady slots objects = absurd cc

  -- ---- stores

  other_store : (op : StoreOp) (rs b : ℕ) (i : ℤ) (rest : List Operand) → (b ≡ 2 → ⊥) →
      raised_store (frame_of f) op (Use rs ∷ Use b ∷ Imm i ∷ rest) ≡ Use rs ∷ Use b ∷ Imm i ∷ rest
  other_store op rs zero i rest other = refl
  other_store op rs (suc zero) i rest other = refl
  other_store op rs (suc (suc zero)) i rest other = absurd (other refl)
  other_store op rs (suc (suc (suc b))) i rest other = refl

  part_store : (op : StoreOp) (rs b : ℕ) (half : Half) (y : LinkedAddress) (rest : List Operand) →
      raised_store (frame_of f) op (Use rs ∷ Use b ∷ Part half y ∷ rest) ≡ Use rs ∷ Use b ∷ Part half y ∷ rest
  part_store op rs zero half y rest = refl
  part_store op rs (suc zero) half y rest = refl
  part_store op rs (suc (suc zero)) half y rest = refl
  part_store op rs (suc (suc (suc b))) half y rest = refl

  slot_store : (op : StoreOp) (rs n : ℕ) (i : ℤ) (rest : List Operand) → moves_slot (store_width op) i ≡ true → Contains (slot_offsets f) n →
      raised_store (frame_of f) op (by_pointer f (Use rs ∷ Slot n ∷ Imm i ∷ rest)) ≡ Use rs ∷ Slot n ∷ Imm i ∷ rest
  slot_store op rs n i rest moves is =
      let both = and_parts (nat_eq (store_width op) 8) (is_within (pos 0) (pos 0) i) moves in
      ap (λ (p : Bool). Use rs ∷ accessed (frame_of f) p n ++ rest) both.0 ∙
      (ap (λ (os : List Operand). Use rs ∷ os ++ rest) (slot_back n (All-contains (IsSlotOffset f) (slot_offsets f) n framed.offsets is).1) ∙
      ap (λ (j : ℤ). Use rs ∷ Slot n ∷ Imm j ∷ rest) (sym (zero_only i both.1)))

  object_store : (op : StoreOp) (rs n : ℕ) (i : ℤ) (rest : List Operand) → Added i →
      raised_store (frame_of f) op (by_pointer f (Use rs ∷ OfObject n ∷ Imm i ∷ rest)) ≡ settled_sum f (Use rs ∷ OfObject n ∷ Imm i ∷ rest)
  object_store op rs n i rest (added m same) =
      ap (λ (os : List Operand). Use rs ∷ os ++ rest) (above (nat_eq (store_width op) 8) (own_size f + offset_of f.objects n + m) (omega arith))

  store_back : (op : StoreOp) (os : List Operand) → fits_store op os ≡ true → IsSteady (Store op) os → SlotIn (slot_offsets f) (store_row op os) →
      ObjectIn f.objects (store_row op os) → raised_store (frame_of f) op (by_pointer f os) ≡ settled_sum f os
  store_back op (Use rs ∷ Use b ∷ Imm i ∷ rest) form steady slots objects = other_store op rs b i rest steady
  store_back op (Use rs ∷ Slot n ∷ Imm i ∷ rest) form steady slots objects =
      slot_store op rs n i rest (and_parts (moves_slot (store_width op) i) (list_all is_implicit rest) form).0 slots
  store_back op (Use rs ∷ OfObject n ∷ Imm i ∷ rest) form steady slots objects =
      let bits = (and_parts (has_12_bits i) (list_all is_implicit rest) form).0 in
      object_store op rs n i rest (added_in n (store_width op) i bits objects)
  store_back op (Use rs ∷ Use b ∷ Part Lower y ∷ rest) form steady slots objects = part_store op rs b Lower y rest
  store_back op os form steady slots objects = absurd cc

  -- ---- sums

  pointer_sum : (rd : ℕ) (i : ℤ) (rest : List Operand) → rd ≡ 2 → raised_sum (frame_of f) (Def rd ∷ Use 2 ∷ Imm i ∷ rest) ≡ Def rd ∷ Use 2 ∷ Imm i ∷ rest
  pointer_sum rd i rest is =
      ap (λ (q : Bool). Def rd ∷ cond q (Use 2 ∷ Imm i ∷ []) (address_at (frame_of f) i) ++ rest) (ap (λ (r : ℕ). nat_eq r 2) is)

  other_sum : (rd b : ℕ) (i : ℤ) (rest : List Operand) → (b ≡ 2 → rd ≡ 2) → raised_sum (frame_of f) (Def rd ∷ Use b ∷ Imm i ∷ rest) ≡
      Def rd ∷ Use b ∷ Imm i ∷ rest
  other_sum rd zero i rest is = refl
  other_sum rd (suc zero) i rest is = refl
  other_sum rd (suc (suc zero)) i rest is = pointer_sum rd i rest (is refl)
  other_sum rd (suc (suc (suc b))) i rest is = refl

  part_sum : (rd b : ℕ) (half : Half) (y : LinkedAddress) (rest : List Operand) →
      raised_sum (frame_of f) (Def rd ∷ Use b ∷ Part half y ∷ rest) ≡ Def rd ∷ Use b ∷ Part half y ∷ rest
  part_sum rd zero half y rest = refl
  part_sum rd (suc zero) half y rest = refl
  part_sum rd (suc (suc zero)) half y rest = refl
  part_sum rd (suc (suc (suc b))) half y rest = refl

  object_sum : (rd n : ℕ) (i : ℤ) (rest : List Operand) → (rd ≡ 2 → ⊥) →
      raised_sum (frame_of f) (by_pointer f (Def rd ∷ OfObject n ∷ Imm i ∷ rest)) ≡ settled_address f (Def rd ∷ OfObject n ∷ Imm i ∷ rest)
  object_sum rd n i rest other =
      let z : ℤ = pos (own_size f + offset_of f.objects n) +ℤ i in
      ap (λ (q : Bool). Def rd ∷ cond q (Use 2 ∷ Imm z ∷ []) (address_at (frame_of f) z) ++ rest) (ne_eqb rd 2 other)

  sum_back : (os : List Operand) → fits_immediate Addi os ≡ true → IsSteady (Immediate Addi) os → ObjectIn f.objects (number_row Addi os) →
      raised_sum (frame_of f) (by_pointer f os) ≡ settled_address f os
  sum_back (Def rd ∷ Use b ∷ Imm i ∷ rest) form steady objects = other_sum rd b i rest steady
  sum_back (Def rd ∷ OfObject n ∷ Imm i ∷ rest) form steady objects = object_sum rd n i rest steady
  sum_back (Def rd ∷ Use b ∷ Part Lower y ∷ rest) form steady objects = part_sum rd b Lower y rest
  sum_back os form steady objects = absurd cc

  unraised : (op : ImmediateOp) (os : List Operand) → fits_immediate op os ≡ true → is_addi op ≡ false → by_pointer f os ≡ settled_address f os
  unraised op (Def rd ∷ Use b ∷ Imm i ∷ rest) form other = refl
  unraised op (Def rd ∷ OfObject n ∷ Imm i ∷ rest) form other =
      let is = (and_parts (is_addi op) (is_immediate op i) (and_parts (is_addi op && is_immediate op i) (list_all is_implicit rest) form).0).0 in
      absurd cc
  unraised op (Def rd ∷ Use b ∷ Part Lower y ∷ rest) form other = refl
  unraised op os form other = absurd cc

  immediate_back : (op : ImmediateOp) (os : List Operand) → fits_immediate op os ≡ true → IsSteady (Immediate op) os →
      ObjectIn f.objects (number_row op os) → raised_number (frame_of f) op (by_pointer f os) ≡ settled_address f os
  immediate_back Addi os form steady objects = sum_back os form steady objects
  immediate_back Slti os form steady objects = unraised Slti os form refl
  immediate_back Sltiu os form steady objects = unraised Sltiu os form refl
  immediate_back Xori os form steady objects = unraised Xori os form refl
  immediate_back Ori os form steady objects = unraised Ori os form refl
  immediate_back Andi os form steady objects = unraised Andi os form refl
  immediate_back Slli os form steady objects = unraised Slli os form refl
  immediate_back Srli os form steady objects = unraised Srli os form refl
  immediate_back Srai os form steady objects = unraised Srai os form refl
  immediate_back Addiw os form steady objects = unraised Addiw os form refl
  immediate_back Slliw os form steady objects = unraised Slliw os form refl
  immediate_back Srliw os form steady objects = unraised Srliw os form refl
  immediate_back Sraiw os form steady objects = unraised Sraiw os form refl

  -- ---- all others

  registers_stay : (os : List Operand) → fits_registers os ≡ true → by_pointer f os ≡ os
  registers_stay (Def rd ∷ Use a ∷ Use b ∷ rest) form = refl
  registers_stay os form = absurd cc

  upper_stays : (os : List Operand) → fits_upper os ≡ true → by_pointer f os ≡ os
  upper_stays (Def rd ∷ Imm i ∷ rest) form = refl
  upper_stays (Def rd ∷ Part Upper y ∷ rest) form = refl
  upper_stays os form = absurd cc

  branch_stays : (os : List Operand) → fits_branch os ≡ true → by_pointer f os ≡ os
  branch_stays (Use a ∷ Use b ∷ Block n ∷ rest) form = refl
  branch_stays os form = absurd cc

  copy_stays : (os : List Operand) → fits_copy os ≡ true → by_pointer f os ≡ os
  copy_stays (Def rd ∷ Use a ∷ rest) form = refl
  copy_stays os form = absurd cc

  behind_block : (n : ℕ) (os : List Operand) → list_all is_implicit os ≡ true → by_pointer f (Block n ∷ os) ≡ Block n ∷ os
  behind_block n [] all = refl
  behind_block n (ImplicitDef r ∷ os) all = refl
  behind_block n (ImplicitUse r ∷ os) all = refl
  behind_block n (o ∷ os) all = absurd cc

  jump_stays : (os : List Operand) → fits_jump os ≡ true → by_pointer f os ≡ os
  jump_stays (Block n ∷ rest) form = behind_block n rest form
  jump_stays os form = absurd cc

  call_stays : (os : List Operand) → fits_call os ≡ true → by_pointer f os ≡ os
  call_stays (Symbol name ∷ Mask ∷ rest) form = refl
  call_stays os form = absurd cc

  behind_result : (x : Operand) (o : Operand) (os : List Operand) → is_result o ≡ true → by_pointer f (x ∷ o ∷ os) ≡ x ∷ o ∷ os
  behind_result x (ImplicitUse r) os is = refl
  behind_result x GlobalRegisters os is = refl
  behind_result x o os is = absurd cc

  pub results_stay : (os : List Operand) → list_all is_result os ≡ true → by_pointer f os ≡ os
  results_stay [] all = refl
  results_stay (o ∷ []) all = refl
  results_stay (x ∷ o ∷ os) all =
      behind_result x o os (and_parts (is_result o) (list_all is_result os) (and_parts (is_result x) (is_result o && list_all is_result os) all).1).0

  behind_tail : (x : Operand) (os : List Operand) → list_all is_held_tail_use os ≡ true → by_pointer f (x ∷ os) ≡ x ∷ os
  behind_tail x [] all = refl
  behind_tail x (ImplicitUse r ∷ os) all = refl
  behind_tail x (GlobalRegisters ∷ os) all = refl
  behind_tail x (o ∷ os) all = absurd cc

  held_call_stays : (os : List Operand) → fits_held_call os ≡ true → by_pointer f os ≡ os
  held_call_stays (Use r ∷ Mask ∷ rest) form = refl
  held_call_stays os form = absurd cc

  held_gone_stays : (os : List Operand) → fits_held_gone os ≡ true → by_pointer f os ≡ os
  held_gone_stays (ImplicitUse r ∷ Mask ∷ rest) form = refl
  held_gone_stays os form = absurd cc

  tail_stays : (os : List Operand) → fits_tail os ≡ true → by_pointer f os ≡ os
  tail_stays (Symbol name ∷ rest) form = behind_tail (Symbol name) rest (held_tail_uses rest form)
  tail_stays os form = absurd cc

  held_tail_stays : (os : List Operand) → fits_held_tail os ≡ true → by_pointer f os ≡ os
  held_tail_stays (ImplicitUse r ∷ rest) form =
      behind_tail (ImplicitUse r) rest (and_parts (is_held_tail_register r) (list_all is_held_tail_use rest) form).1
  held_tail_stays os form = absurd cc

  pub operands_back : (op : Op) (os : List Operand) → has_form op os ≡ true → IsSteady op os → SlotIn (slot_offsets f) (row_by op os) →
      ObjectIn f.objects (row_by op os) → raised_operands (frame_of f) op (by_pointer f os) ≡ settled_operands f op os
  operands_back (Registers op) os form steady slots objects = registers_stay os form
  operands_back (Immediate op) os form steady slots objects = immediate_back op os form steady objects
  operands_back Lui os form steady slots objects = upper_stays os form
  operands_back (Branch op) os form steady slots objects = branch_stays os form
  operands_back (Load op) os form steady slots objects = load_back op os form steady slots objects
  operands_back (Store op) os form steady slots objects = store_back op os form steady slots objects
  operands_back Copy os form steady slots objects = copy_stays os form
  operands_back PseudoBr os form steady slots objects = jump_stays os form
  operands_back PseudoCall os form steady slots objects = call_stays os form
  operands_back PseudoRet os form steady slots objects = results_stay os form
  operands_back PseudoCallIndirect os form steady slots objects = held_call_stays os form
  operands_back PseudoTail os form steady slots objects = tail_stays os form
  operands_back PseudoTailIndirect os form steady slots objects = held_tail_stays os form
  operands_back NoReturnCall os form steady slots objects = call_stays os (gone_calls os form)
  operands_back NoReturnCallIndirect os form steady slots objects = held_gone_stays os form

  -- ---- where an access begins at a byte that its object alone has

  object_same : (register : Operand) (n extra : ℕ) (i : ℤ) (rest : List Operand) → 0 < extra → HasBytes f.objects n (word i + extra) →
      IsAlone f.objects n (word i) → Added i → settled_sum f (register ∷ OfObject n ∷ Imm i ∷ rest) ≡ register ∷ OfObject n ∷ Imm i ∷ rest
  object_same register n extra i rest some has alone (added m same) =
      ap (λ (os : List Operand). register ∷ os ++ rest)
      (object_back n m (word (pos m) + extra) has (omega (arith, same, some)) (subst (IsAlone f.objects n) same alone))

  address_back : (n m : ℕ) → HasBytes f.objects n (m + 1) → IsAlone f.objects n m →
      address_at (frame_of f) (pos (own_size f + offset_of f.objects n + m)) ≡ OfObject n ∷ Imm (pos m) ∷ []
  address_back n m (o, found, fits) alone =
      let at : offset_of f.objects n ≡ o.offset = ap offset_or_zero found in
      let x : ℕ = own_size f + offset_of f.objects n + m in
      let objects : List ShownObject = (frame_of f).objects in
      let over : x - own_size f ≡ o.offset + m = omega (arith, at) in
      let stands = found_at f.objects n m o found (omega (arith, fits)) alone in
      let near : object_near (frame_of f) (pos x) ≡ Some (object_placed o) =
      ap (λ (q : Bool). cond q (first_object objects) (or_object (object_at objects (x - own_size f)) (first_object objects)))
      (lt-leb (suc x) (own_size f) (omega arith))
      ∙ ap (λ (k : ℕ). or_object (object_at objects k) (first_object objects)) over
      ∙ ap (λ (z : Option ShownObject). or_object z (first_object objects)) stands in
      let sum : x ≡ own_size f + o.offset + m = omega (arith, at) in
      ap (λ (z : Option ShownObject). addressed (own_size f) z (pos x)) near
      ∙ ap (λ (k : ℕ). OfObject o.id ∷ Imm (pos k -ℤ pos (own_size f + o.offset)) ∷ []) sum
      ∙ ap (λ (z : ℤ). OfObject o.id ∷ Imm z ∷ []) (difference (own_size f + o.offset) m)
      ∙ ap (λ (k : ℕ). OfObject k ∷ Imm (pos m) ∷ []) (id_found f.objects n o found)

  address_same : (rd n : ℕ) (i : ℤ) (rest : List Operand) → HasBytes f.objects n (word i + 1) → IsAlone f.objects n (word i) → Added i →
      settled_address f (Def rd ∷ OfObject n ∷ Imm i ∷ rest) ≡ Def rd ∷ OfObject n ∷ Imm i ∷ rest
  address_same rd n i rest has alone (added m same) =
      ap (λ (os : List Operand). Def rd ∷ os ++ rest)
      (address_back n m (subst (λ (k : ℕ). HasBytes f.objects n (k + 1)) same has) (subst (IsAlone f.objects n) same alone))

  sum_same : (os : List Operand) → fits_immediate Addi os ≡ true → LeadsInside f.objects (number_row Addi os) → settled_address f os ≡ os
  sum_same (Def rd ∷ Use b ∷ Imm i ∷ rest) form inside = refl
  sum_same (Def rd ∷ OfObject n ∷ Imm i ∷ rest) form inside =
      let bits = (and_parts (has_12_bits i) (list_all is_implicit rest) form).0 in
      address_same rd n i rest inside.0 inside.1 (added_in n 1 i bits inside.0)
  sum_same (Def rd ∷ Use b ∷ Part Lower y ∷ rest) form inside = refl
  sum_same os form inside = absurd cc

  load_same : (op : LoadOp) (os : List Operand) → fits_load op os ≡ true → ObjectIn f.objects (load_row op os) → LeadsInside f.objects (load_row op os) →
      settled_sum f os ≡ os
  load_same op (Def rd ∷ Use b ∷ Imm i ∷ rest) form objects inside = refl
  load_same op (Def rd ∷ Slot n ∷ Imm i ∷ rest) form objects inside = refl
  load_same op (Def rd ∷ OfObject n ∷ Imm i ∷ rest) form objects inside =
      let bits = (and_parts (has_12_bits i) (list_all is_implicit rest) form).0 in
      object_same (Def rd) n (load_width op) i rest (load_moves op) objects inside (added_in n (load_width op) i bits objects)
  load_same op (Def rd ∷ Use b ∷ Part Lower y ∷ rest) form objects inside = refl
  load_same op os form objects inside = absurd cc

  store_same : (op : StoreOp) (os : List Operand) → fits_store op os ≡ true → ObjectIn f.objects (store_row op os) →
      LeadsInside f.objects (store_row op os) → settled_sum f os ≡ os
  store_same op (Use rs ∷ Use b ∷ Imm i ∷ rest) form objects inside = refl
  store_same op (Use rs ∷ Slot n ∷ Imm i ∷ rest) form objects inside = refl
  store_same op (Use rs ∷ OfObject n ∷ Imm i ∷ rest) form objects inside =
      let bits = (and_parts (has_12_bits i) (list_all is_implicit rest) form).0 in
      object_same (Use rs) n (store_width op) i rest (store_moves op) objects inside (added_in n (store_width op) i bits objects)
  store_same op (Use rs ∷ Use b ∷ Part Lower y ∷ rest) form objects inside = refl
  store_same op os form objects inside = absurd cc

  unsettled : (op : ImmediateOp) (os : List Operand) → fits_immediate op os ≡ true → is_addi op ≡ false → settled_address f os ≡ os
  unsettled op (Def rd ∷ Use b ∷ Imm i ∷ rest) form other = refl
  unsettled op (Def rd ∷ OfObject n ∷ Imm i ∷ rest) form other =
      let is = (and_parts (is_addi op) (is_immediate op i) (and_parts (is_addi op && is_immediate op i) (list_all is_implicit rest) form).0).0 in
      absurd cc
  unsettled op (Def rd ∷ Use b ∷ Part Lower y ∷ rest) form other = refl
  unsettled op os form other = absurd cc

  immediate_same : (op : ImmediateOp) (os : List Operand) → fits_immediate op os ≡ true → LeadsInside f.objects (number_row op os) → settled_address f os ≡ os
  immediate_same Addi os form inside = sum_same os form inside
  immediate_same Slti os form inside = unsettled Slti os form refl
  immediate_same Sltiu os form inside = unsettled Sltiu os form refl
  immediate_same Xori os form inside = unsettled Xori os form refl
  immediate_same Ori os form inside = unsettled Ori os form refl
  immediate_same Andi os form inside = unsettled Andi os form refl
  immediate_same Slli os form inside = unsettled Slli os form refl
  immediate_same Srli os form inside = unsettled Srli os form refl
  immediate_same Srai os form inside = unsettled Srai os form refl
  immediate_same Addiw os form inside = unsettled Addiw os form refl
  immediate_same Slliw os form inside = unsettled Slliw os form refl
  immediate_same Srliw os form inside = unsettled Srliw os form refl
  immediate_same Sraiw os form inside = unsettled Sraiw os form refl

  pub operands_same : (op : Op) (os : List Operand) → has_form op os ≡ true → ObjectIn f.objects (row_by op os) → LeadsInside f.objects (row_by op os) →
      settled_operands f op os ≡ os
  operands_same (Immediate op) os form objects inside = immediate_same op os form inside
  operands_same (Load op) os form objects inside = load_same op os form objects inside
  operands_same (Store op) os form objects inside = store_same op os form objects inside
  operands_same _ os form objects inside = refl
