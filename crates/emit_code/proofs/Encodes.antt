-- Each instruction of a function with its frame has its word.
use Rattle.std.proofs.Common.{◌≡◌, ℕ, zero, suc, ◌+◌, ◌-◌, ◌%◌, ◌<◌, ◌≤◌, Bool, true, false, List, ◌∷◌, Option, Some, None, refl, sym, ap, subst, inl, inr, ◌∙◌}
use Rattle.std.proofs.Common.{◌^◌, arith, ◌⊎◌, ◌&&◌}
use Rattle.std.specs.Prelude.{◌⊎◌, ◌&&◌, ℤ, pos, negsuc, ◌-ℤ◌, ◌+ℤ◌, IsTrue, All, Contains, option_and_then, if◌then◌else◌}
use Rattle.std.specs.List.{list_all}
use Rattle.std.proofs.lemmas.Bool.Decides.{nat_tests}
use Rattle.std.proofs.lemmas.Int.{ints}
use Rattle.std.proofs.lemmas.Bool.{and_parts}
use Rattle.rv64_instr.specs.Arithmetic.{word, load_width, store_width}
use Rattle.rv64_instr.specs.declared.op.Op.{Op}
use Rattle.rv64_instr.specs.declared.op.Op.TheVariants as source
use Rattle.rv64_instr.specs.declared.op.RegisterOp.{RegisterOp}
use Rattle.rv64_instr.specs.declared.op.RegisterOp.TheVariants.{Add}
use Rattle.rv64_instr.specs.declared.op.ImmediateOp.{ImmediateOp}
use Rattle.rv64_instr.specs.declared.op.ImmediateOp.TheVariants.{Addi, Slti, Sltiu, Xori, Ori, Andi, Slli, Srli, Srai, Addiw, Slliw, Srliw, Sraiw}
use Rattle.rv64_instr.specs.declared.op.BranchOp.{BranchOp}
use Rattle.rv64_instr.specs.declared.op.BranchOp.TheVariants.{Beq}
use Rattle.rv64_instr.specs.declared.op.LoadOp.{LoadOp}
use Rattle.rv64_instr.specs.declared.op.LoadOp.TheVariants.{Lb, Ld}
use Rattle.rv64_instr.specs.declared.op.StoreOp.{StoreOp}
use Rattle.rv64_instr.specs.declared.op.StoreOp.TheVariants.{Sb, Sh, Sw, Sd}
use Rattle.rv64_instr.specs.declared.operand.Operand.{Operand}
use Rattle.rv64_instr.specs.declared.operand.Operand.TheVariants.{Def, Use, Imm, Slot, Object as OfObject, Part, Block as OfBlock, Mask, ImplicitUse, Symbol}
use Rattle.rv64_instr.specs.declared.symbol.Half.TheVariants.{Upper, Lower}
use Rattle.rv64_instr.specs.Instruction.{Instruction}
use Rattle.rv64_word.specs.declared.format.Format.{Format}
use Rattle.rv64_word.specs.declared.format.Format.TheVariants as format
use Rattle.rv64_word.specs.declared.machine_op.MachineOp.{MachineOp}
use Rattle.rv64_word.specs.declared.word_op.WordOp.TheVariants.{Registers, Immediate, Lui, Branch, Load, Store, Jal, Jalr}
use Rattle.rv64_word.specs.Operation.{encoding_of}
use Rattle.rv64_word.specs.Lowering.{lowered, fields_of, in_range, machine_op, held_fields}
use Rattle.rv64_word.proofs.Fitting.{is_fit}
use Rattle.rv64_instr.specs.Row.{row_of, call_row, tail_row, gone_row}
use Rattle.rv64_instr.specs.View.{access_of}
use Rattle.rv64_instr.specs.LocationEffects.{object_named, has_site}
use Rattle.mir_func.specs.declared.exit.Exit.{Exit}
use Rattle.mir_func.specs.declared.exit.Exit.TheVariants.{Onward, Perhaps, Always, Final}
use Rattle.mir_func.specs.declared.object.Object.{Object}
use Rattle.mir_func.specs.Exits.{row_exit}
use Rattle.mir_func.specs.Objects.{offset_of}
use Rattle.mir_func.specs.Sound.{SlotIn, ObjectIn, HasBytes}
use Rattle.mir_func.specs.SoundFrame.{IsPhysical, AccessReaches}
use Rattle.rv64_instr.specs.Form.{is_within, has_12_bits, is_immediate, is_addi, is_implicit, fits_registers, fits_immediate, fits_upper, fits_branch}
use Rattle.rv64_instr.specs.Form.{fits_load, fits_store, fits_copy, fits_jump, has_form, is_last_argument, is_call_register, is_held_tail_use}
use Rattle.rv64_instr.specs.Form.{is_held_tail_register, fits_call, fits_held_call, fits_gone, fits_held_gone, fits_tail, fits_held_tail}
use Rattle.rv64_instr.proofs.Tails.{held_callee, tail_callee, callee_low}
use Rattle.rv64_word.specs.MachineOp.{fits, is_encodable, is_even}
use Rattle.emit_code.proofs.Fits.{held_fit, callee_not_two}

-- ---- offsets

up_by : (a d : ℕ) → pos (a + d) -ℤ pos a ≡ pos d
up_by a d = grind (arith, ints)

down_by : (s d : ℕ) → pos s -ℤ pos (s + suc d) ≡ negsuc d
down_by s d = grind (arith, ints)

even_up : (d : ℕ) → d % 4 ≡ 0 → IsTrue (is_even (pos d))
even_up d e = grind (arith, nat_tests)

even_down : (d : ℕ) → suc d % 4 ≡ 0 → IsTrue (is_even (negsuc d))
even_down d e = grind (arith, nat_tests)

-- the offset from an address to another, by which of the two is greater
pub record Offset (a s : ℕ) : Type 0 where
  pub even : IsTrue (is_even (pos s -ℤ pos a))
  pub near : a < s + 1048577 → s < a + 1048575 → IsTrue (is_within (negsuc 1048575) (pos 1048574) (pos s -ℤ pos a))

within_up : (d : ℕ) → d < 1048575 → IsTrue (is_within (negsuc 1048575) (pos 1048574) (pos d))
within_up d lt = grind (arith, nat_tests, ints)

within_down : (d : ℕ) → d < 1048576 → IsTrue (is_within (negsuc 1048575) (pos 1048574) (negsuc d))
within_down d lt = grind (arith, nat_tests, ints)

offset_by : (a s : ℕ) → a % 4 ≡ 0 → s % 4 ≡ 0 → (a ≤ s) ⊎ (s < a) → Offset a s
offset_by a s ea es (inl le) =
    let e : a + (s - a) ≡ s = omega arith in
    let is : pos s -ℤ pos a ≡ pos (s - a) = subst (λ (x : ℕ). pos x -ℤ pos a ≡ pos (s - a)) e (up_by a (s - a)) in
    record {
      even = rw is (even_up (s - a) (omega arith));
      near = λ down up. rw is (within_up (s - a) (omega arith));
    }
offset_by a s ea es (inr lt) =
    let e : s + suc (a - s - 1) ≡ a = omega arith in
    let is : pos s -ℤ pos a ≡ negsuc (a - s - 1) = subst (λ (x : ℕ). pos s -ℤ pos x ≡ negsuc (a - s - 1)) e (down_by s (a - s - 1)) in
    record {
      even = rw is (even_down (a - s - 1) (omega arith));
      near = λ down up. rw is (within_down (a - s - 1) (omega arith));
    }

either : (a s : ℕ) → (a ≤ s) ⊎ (s < a)
either zero s = inl (omega arith)
either (suc a) zero = inr (omega arith)
either (suc a) (suc s) = elim (either a s) as (λ z. (suc a ≤ suc s) ⊎ (suc s < suc a)) [ inl h ↦ inl (omega arith) | inr h ↦ inr (omega arith) ]

pub offset : (a s : ℕ) → a % 4 ≡ 0 → s % 4 ≡ 0 → Offset a s
offset a s ea es = offset_by a s ea es (either a s)

-- ---- formats

register_format : (op : RegisterOp) → (encoding_of (Registers op)).format ≡ format.Register
register_format Add = refl
register_format _ = refl

branch_format : (op : BranchOp) → (encoding_of (Branch op)).format ≡ format.Branch
branch_format Beq = refl
branch_format _ = refl

load_format : (op : LoadOp) → (encoding_of (Load op)).format ≡ format.Immediate
load_format Lb = refl
load_format _ = refl

store_format : (op : StoreOp) → (encoding_of (Store op)).format ≡ format.Store
store_format Sb = refl
store_format Sh = refl
store_format Sw = refl
store_format Sd = refl

abbrev encodes : MachineOp → Type 0
encodes m = IsTrue (is_encodable m)

in_format : (m : MachineOp) (f : Format) → (encoding_of m.op).format ≡ f → IsTrue (fits f m) → encodes m
in_format m f e h = subst (λ (x : Format). IsTrue (fits x m)) (sym e) h

register_encodes : (op : RegisterOp) (rd a b : ℕ) → rd < 32 → a < 32 → b < 32 → encodes (machine_op (Registers op) rd a b (pos 0))
register_encodes op rd a b r s t =
    in_format (machine_op (Registers op) rd a b (pos 0)) format.Register (register_format op) (is_fit format.Register (machine_op (Registers op) rd a b (pos
    0)) (r, s, t, refl))

immediate_encodes : (op : ImmediateOp) (rd a : ℕ) (i : ℤ) → rd < 32 → a < 32 → IsTrue (is_immediate op i) → encodes (machine_op (Immediate op) rd a 0 i)
immediate_encodes Addi rd a i r s h = is_fit format.Immediate (machine_op (Immediate Addi) rd a 0 i) (r, s, refl, h)
immediate_encodes Slti rd a i r s h = is_fit format.Immediate (machine_op (Immediate Slti) rd a 0 i) (r, s, refl, h)
immediate_encodes Sltiu rd a i r s h = is_fit format.Immediate (machine_op (Immediate Sltiu) rd a 0 i) (r, s, refl, h)
immediate_encodes Xori rd a i r s h = is_fit format.Immediate (machine_op (Immediate Xori) rd a 0 i) (r, s, refl, h)
immediate_encodes Ori rd a i r s h = is_fit format.Immediate (machine_op (Immediate Ori) rd a 0 i) (r, s, refl, h)
immediate_encodes Andi rd a i r s h = is_fit format.Immediate (machine_op (Immediate Andi) rd a 0 i) (r, s, refl, h)
immediate_encodes Slli rd a i r s h = is_fit format.Shift (machine_op (Immediate Slli) rd a 0 i) (r, s, refl, h)
immediate_encodes Srli rd a i r s h = is_fit format.Shift (machine_op (Immediate Srli) rd a 0 i) (r, s, refl, h)
immediate_encodes Srai rd a i r s h = is_fit format.Shift (machine_op (Immediate Srai) rd a 0 i) (r, s, refl, h)
immediate_encodes Addiw rd a i r s h = is_fit format.Immediate (machine_op (Immediate Addiw) rd a 0 i) (r, s, refl, h)
immediate_encodes Slliw rd a i r s h = is_fit format.WordShift (machine_op (Immediate Slliw) rd a 0 i) (r, s, refl, h)
immediate_encodes Srliw rd a i r s h = is_fit format.WordShift (machine_op (Immediate Srliw) rd a 0 i) (r, s, refl, h)
immediate_encodes Sraiw rd a i r s h = is_fit format.WordShift (machine_op (Immediate Sraiw) rd a 0 i) (r, s, refl, h)

load_encodes : (op : LoadOp) (rd a : ℕ) (i : ℤ) → rd < 32 → a < 32 → IsTrue (has_12_bits i) → encodes (machine_op (Load op) rd a 0 i)
load_encodes op rd a i r s h =
    in_format (machine_op (Load op) rd a 0 i) format.Immediate (load_format op) (is_fit format.Immediate (machine_op (Load op) rd a 0 i) (r, s, refl, h))

store_encodes : (op : StoreOp) (a b : ℕ) (i : ℤ) → a < 32 → b < 32 → IsTrue (has_12_bits i) → encodes (machine_op (Store op) 0 a b i)
store_encodes op a b i s t h =
    in_format (machine_op (Store op) 0 a b i) format.Store (store_format op) (is_fit format.Store (machine_op (Store op) 0 a b i) (refl, s, t, h))

branch_encodes : (op : BranchOp) (a b : ℕ) (i : ℤ) → a < 32 → b < 32 → IsTrue (is_within (negsuc 4095) (pos 4094) i) → IsTrue (is_even i) →
    encodes (machine_op (Branch op) 0 a b i)
branch_encodes op a b i s t h e =
    in_format (machine_op (Branch op) 0 a b i) format.Branch (branch_format op) (is_fit format.Branch (machine_op (Branch op) 0 a b i) (refl, s, t, h, e))

jump_encodes : (i : ℤ) → IsTrue (is_within (negsuc 1048575) (pos 1048574) i) → IsTrue (is_even i) → encodes (machine_op Jal 0 0 0 i)
jump_encodes i h e = is_fit format.Jump (machine_op Jal 0 0 0 i) (omega arith, refl, refl, h, e)

upper_encodes : (rd : ℕ) (i : ℤ) → rd < 32 → IsTrue (is_within (pos 0) (pos 1048575) i) → encodes (machine_op Lui rd 0 0 i)
upper_encodes rd i r h = is_fit format.Upper (machine_op Lui rd 0 0 i) (r, refl, refl, h)

-- ---- instructions

ranged : (m : MachineOp) → encodes m → in_range m ≡ Some m
ranged m h = ap (λ (b : Bool). if b then Some m else None) h

pub record HasWord (offset : ℤ) (object : ℕ) (i : Instruction) : Type 0 where
  pub operation : MachineOp
  pub is : lowered offset object i ≡ Some operation

with_word : (offset : ℤ) (object : ℕ) (i : Instruction) (m : MachineOp) → fields_of i.op i.operands offset object ≡ Some m → encodes m → HasWord offset object i
with_word offset object i m e h = record { operation = m; is = ap (option_and_then in_range) e ∙ ranged m h }

-- the operands' registers are physical
abbrev Physical : List Operand → Type 0
Physical operands = All IsPhysical operands

left : (a b : Bool) → IsTrue (a && b) → IsTrue a
left true b h = refl
left false b h = h

registers_word : (op : RegisterOp) (operands : List Operand) (offset : ℤ) (object : ℕ) → IsTrue (fits_registers operands) → Physical operands →
    HasWord offset object (record { op = source.Registers op; operands = operands; volatile = false })
registers_word op (Def rd ∷ Use a ∷ Use b ∷ rest) offset object form physical =
    with_word offset object (record { op = source.Registers op; operands = Def rd ∷ Use a ∷ Use b ∷ rest; volatile = false }) (machine_op (Registers op) rd a b (pos 0)) refl
    (register_encodes op rd a b (physical 0 Mask (omega arith)) (physical 1 Mask (omega arith)) (physical 2 Mask (omega arith)))
registers_word op operands offset object form physical = absurd cc

right : (a b : Bool) → IsTrue (a && b) → IsTrue b
right true b h = h
right false b h = absurd cc

-- what an offset must be, by where the instruction goes
abbrev pub OffsetFits : Exit → ℤ → Type 0
OffsetFits Onward offset = Unit {0}
OffsetFits (Perhaps n) offset = IsTrue (is_within (negsuc 4095) (pos 4094) offset) × IsTrue (is_even offset)
OffsetFits (Always n) offset = IsTrue (is_within (negsuc 1048575) (pos 1048574) offset) × IsTrue (is_even offset)
OffsetFits Final offset = Unit {0}

abbrev instruction : Op → List Operand → Instruction
instruction op operands = record { op = op; operands = operands; volatile = false }

branch_word : (op : BranchOp) (operands : List Operand) (offset : ℤ) (object : ℕ) → IsTrue (fits_branch operands) → Physical operands →
    OffsetFits (row_exit (row_of (instruction (source.Branch op) operands))) offset → HasWord offset object (instruction (source.Branch op) operands)
branch_word op (Use a ∷ Use b ∷ OfBlock n ∷ rest) offset object form physical fit =
    with_word offset object (instruction (source.Branch op) (Use a ∷ Use b ∷ OfBlock n ∷ rest)) (machine_op (Branch op) 0 a b offset) refl
    (branch_encodes op a b offset (physical 0 Mask (omega arith)) (physical 1 Mask (omega arith)) fit.0 fit.1)
branch_word op operands offset object form physical fit = absurd cc

jump_word : (operands : List Operand) (offset : ℤ) (object : ℕ) → IsTrue (fits_jump operands) →
    OffsetFits (row_exit (row_of (instruction source.PseudoBr operands))) offset → HasWord offset object (instruction source.PseudoBr operands)
jump_word (OfBlock n ∷ rest) offset object form fit =
    with_word offset object (instruction source.PseudoBr (OfBlock n ∷ rest)) (machine_op Jal 0 0 0 offset) refl (jump_encodes offset fit.0 fit.1)
jump_word operands offset object form fit = absurd cc

upper_word : (operands : List Operand) (offset : ℤ) (object : ℕ) → IsTrue (fits_upper operands) → Physical operands →
    HasWord offset object (instruction source.Lui operands)
upper_word (Def rd ∷ Imm i ∷ rest) offset object form physical =
    with_word offset object (instruction source.Lui (Def rd ∷ Imm i ∷ rest)) (machine_op Lui rd 0 0 i) refl (upper_encodes rd i (physical 0 Mask (omega arith))
    (left _ _ form))
upper_word (Def rd ∷ Part Upper y ∷ rest) offset object form physical =
    with_word offset object (instruction source.Lui (Def rd ∷ Part Upper y ∷ rest)) (machine_op Lui rd 0 0 (pos 0)) refl
    (upper_encodes rd (pos 0) (physical 0 Mask (omega arith)) refl)
upper_word operands offset object form physical = absurd cc

copy_word : (operands : List Operand) (offset : ℤ) (object : ℕ) → IsTrue (fits_copy operands) → Physical operands →
    HasWord offset object (instruction source.Copy operands)
copy_word (Def rd ∷ Use rs ∷ rest) offset object form physical =
    with_word offset object (instruction source.Copy (Def rd ∷ Use rs ∷ rest)) (machine_op (Immediate Addi) rd rs 0 (pos 0)) refl
    (immediate_encodes Addi rd rs (pos 0) (physical 0 Mask (omega arith)) (physical 1 Mask (omega arith)) refl)
copy_word operands offset object form physical = absurd cc

-- ---- by x2

small_slot : (n : ℕ) → n ≤ 2047 → IsTrue (has_12_bits (pos n))
small_slot n le = grind (arith, nat_tests, ints)

sum_up : (object n : ℕ) → object + n ≤ 2047 → IsTrue (has_12_bits (pos object +ℤ pos n))
sum_up object n le = small_slot (object + n) le

twelve : (n : ℕ) → IsTrue (has_12_bits (negsuc n)) → n ≤ 2047
twelve n h = grind (arith, nat_tests, ints)

object_sum : (object : ℕ) (i : ℤ) → object + word i ≤ 2047 → IsTrue (has_12_bits i) → IsTrue (has_12_bits (pos object +ℤ i))
object_sum object (pos n) le h =
    let small : n ≤ 2047 = twelve_up n h in
    sum_up object n (omega arith)
  where
    twelve_up : (k : ℕ) → IsTrue (has_12_bits (pos k)) → k ≤ 2047
    twelve_up k t = grind (arith, nat_tests, ints)
object_sum object (negsuc n) le h = let small = twelve n h in absurd (omega (arith, small))

sum_down : (object n : ℕ) → object ≤ 2047 → n ≤ 2047 → IsTrue (has_12_bits (pos object +ℤ negsuc n))
sum_down object n low small = grind (arith, nat_tests, ints)

-- the address of an object, which lies low enough above x2 if it doesn't lie below the object
address_sum : (object : ℕ) (i : ℤ) → object ≤ 2047 → (word i < 2 ^ 63 → object + word i ≤ 2032) → IsTrue (has_12_bits i) →
    IsTrue (has_12_bits (pos object +ℤ i))
address_sum object (pos n) low reaches h =
    let small : n ≤ 2047 = twelve_up n h in
    let sum = reaches (omega (arith, small)) in
    sum_up object n (omega (arith, small, sum))
  where
    twelve_up : (k : ℕ) → IsTrue (has_12_bits (pos k)) → k ≤ 2047
    twelve_up k t = grind (arith, nat_tests, ints)
address_sum object (negsuc n) low reaches h = sum_down object n low (twelve n h)

module _ (slots : List ℕ) (objects : List Object) (own : ℕ) (low : (n : ℕ) → Contains slots n → n ≤ 2047)
    (room : (n bytes : ℕ) → HasBytes objects n bytes → own + offset_of objects n + bytes ≤ 2047) where
  abbrev pub place : Option ℕ → ℕ
  place None = 0
  place (Some n) = own + offset_of objects n

  object_word : (op : ImmediateOp) (rd n : ℕ) (i : ℤ) (rest : List Operand) (offset : ℤ) →
      IsTrue (is_addi op && is_immediate op i && list_all is_implicit rest) → rd < 32 →
      ObjectIn objects (row_of (instruction (source.Immediate op) (Def rd ∷ OfObject n ∷ Imm i ∷ rest))) →
      AccessReaches own objects (access_of (row_of (instruction (source.Immediate op) (Def rd ∷ OfObject n ∷ Imm i ∷ rest)))) →
      HasWord offset (place (object_named (row_of (instruction (source.Immediate op) (Def rd ∷ OfObject n ∷ Imm i ∷ rest))))) (instruction (source.Immediate
      op) (Def rd ∷ OfObject n ∷ Imm i ∷ rest))
  object_word Addi rd n i rest offset form r inside reaches =
      let range : IsTrue (has_12_bits i) = left (has_12_bits i) (list_all is_implicit rest) form in
      with_word offset (own + offset_of objects n) (instruction (source.Immediate Addi) (Def rd ∷ OfObject n ∷ Imm i ∷ rest))
      (machine_op (Immediate Addi) rd 2 0 (pos (own + offset_of objects n) +ℤ i)) refl
      (immediate_encodes Addi rd 2 (pos (own + offset_of objects n) +ℤ i) r (omega arith)
      (address_sum (own + offset_of objects n) i (omega (arith, room n 0 inside)) reaches range))
  object_word op rd n i rest offset form r inside reaches = absurd cc

  immediate_word : (op : ImmediateOp) (operands : List Operand) (offset : ℤ) → IsTrue (fits_immediate op operands) → Physical operands →
      ObjectIn objects (row_of (instruction (source.Immediate op) operands)) → AccessReaches own objects (access_of (row_of (instruction (source.Immediate
      op) operands))) →
      HasWord offset (place (object_named (row_of (instruction (source.Immediate op) operands)))) (instruction (source.Immediate op) operands)
  immediate_word op (Def rd ∷ Use a ∷ Imm i ∷ rest) offset form physical inside reaches =
      with_word offset _ (instruction (source.Immediate op) (Def rd ∷ Use a ∷ Imm i ∷ rest)) (machine_op (Immediate op) rd a 0 i) refl
      (immediate_encodes op rd a i (physical 0 Mask (omega arith)) (physical 1 Mask (omega arith)) (left _ _ form))
  immediate_word op (Def rd ∷ OfObject n ∷ Imm i ∷ rest) offset form physical inside reaches = object_word op rd n i rest offset form
      (physical 0 Mask (omega arith)) inside reaches
  immediate_word op (Def rd ∷ Use a ∷ Part Lower y ∷ rest) offset form physical inside reaches =
      with_word offset _ (instruction (source.Immediate op) (Def rd ∷ Use a ∷ Part Lower y ∷ rest)) (machine_op (Immediate Addi) rd a 0 (pos 0)) refl
      (immediate_encodes Addi rd a (pos 0) (physical 0 Mask (omega arith)) (physical 1 Mask (omega arith)) refl)
  immediate_word op operands offset form physical inside reaches = absurd cc

  load_word : (op : LoadOp) (operands : List Operand) (offset : ℤ) → IsTrue (fits_load op operands) → Physical operands →
      SlotIn slots (row_of (instruction (source.Load op) operands)) → ObjectIn objects (row_of (instruction (source.Load op) operands)) →
      HasWord offset (place (object_named (row_of (instruction (source.Load op) operands)))) (instruction (source.Load op) operands)
  load_word op (Def rd ∷ Use base ∷ Imm i ∷ rest) offset form physical slot inside =
      with_word offset _ (instruction (source.Load op) (Def rd ∷ Use base ∷ Imm i ∷ rest)) (machine_op (Load op) rd base 0 i) refl
      (load_encodes op rd base i (physical 0 Mask (omega arith)) (physical 1 Mask (omega arith)) (left _ _ form))
  load_word op (Def rd ∷ Slot n ∷ Imm i ∷ rest) offset form physical slot inside =
      with_word offset _ (instruction (source.Load op) (Def rd ∷ Slot n ∷ Imm i ∷ rest)) (machine_op (Load Ld) rd 2 0 (pos n)) refl
      (load_encodes Ld rd 2 (pos n) (physical 0 Mask (omega arith)) (omega arith) (small_slot n (low n slot)))
  load_word op (Def rd ∷ OfObject n ∷ Imm i ∷ rest) offset form physical slot inside =
      let fits_in = room n (word i + load_width op) inside in
      with_word offset (own + offset_of objects n) (instruction (source.Load op) (Def rd ∷ OfObject n ∷ Imm i ∷ rest))
      (machine_op (Load op) rd 2 0 (pos (own + offset_of objects n) +ℤ i)) refl
      (load_encodes op rd 2 (pos (own + offset_of objects n) +ℤ i) (physical 0 Mask (omega arith)) (omega arith)
      (object_sum (own + offset_of objects n) i (omega (arith, fits_in)) (left _ _ form)))
  load_word op (Def rd ∷ Use base ∷ Part Lower y ∷ rest) offset form physical slot inside =
      with_word offset _ (instruction (source.Load op) (Def rd ∷ Use base ∷ Part Lower y ∷ rest)) (machine_op (Load op) rd base 0 (pos 0)) refl
      (load_encodes op rd base (pos 0) (physical 0 Mask (omega arith)) (physical 1 Mask (omega arith)) refl)
  load_word op operands offset form physical slot inside = absurd cc

  store_word : (op : StoreOp) (operands : List Operand) (offset : ℤ) → IsTrue (fits_store op operands) → Physical operands →
      SlotIn slots (row_of (instruction (source.Store op) operands)) → ObjectIn objects (row_of (instruction (source.Store op) operands)) →
      HasWord offset (place (object_named (row_of (instruction (source.Store op) operands)))) (instruction (source.Store op) operands)
  store_word op (Use rs ∷ Use base ∷ Imm i ∷ rest) offset form physical slot inside =
      with_word offset _ (instruction (source.Store op) (Use rs ∷ Use base ∷ Imm i ∷ rest)) (machine_op (Store op) 0 base rs i) refl
      (store_encodes op base rs i (physical 1 Mask (omega arith)) (physical 0 Mask (omega arith)) (left _ _ form))
  store_word op (Use rs ∷ Slot n ∷ Imm i ∷ rest) offset form physical slot inside =
      with_word offset _ (instruction (source.Store op) (Use rs ∷ Slot n ∷ Imm i ∷ rest)) (machine_op (Store Sd) 0 2 rs (pos n)) refl
      (store_encodes Sd 2 rs (pos n) (omega arith) (physical 0 Mask (omega arith)) (small_slot n (low n slot)))
  store_word op (Use rs ∷ OfObject n ∷ Imm i ∷ rest) offset form physical slot inside =
      let fits_in = room n (word i + store_width op) inside in
      with_word offset (own + offset_of objects n) (instruction (source.Store op) (Use rs ∷ OfObject n ∷ Imm i ∷ rest))
      (machine_op (Store op) 0 2 rs (pos (own + offset_of objects n) +ℤ i)) refl
      (store_encodes op 2 rs (pos (own + offset_of objects n) +ℤ i) (omega arith) (physical 0 Mask (omega arith))
      (object_sum (own + offset_of objects n) i (omega (arith, fits_in)) (left _ _ form)))
  store_word op (Use rs ∷ Use base ∷ Part Lower y ∷ rest) offset form physical slot inside =
      with_word offset _ (instruction (source.Store op) (Use rs ∷ Use base ∷ Part Lower y ∷ rest)) (machine_op (Store op) 0 base rs (pos 0)) refl
      (store_encodes op base rs (pos 0) (physical 1 Mask (omega arith)) (physical 0 Mask (omega arith)) refl)
  store_word op operands offset form physical slot inside = absurd cc

  held_encodes : (link r : ℕ) → link < 32 → r < 32 → encodes (machine_op Jalr link r 0 (pos 0))
  held_encodes link r l h = is_fit format.Immediate (machine_op Jalr link r 0 (pos 0)) (l, h, refl, refl)

  held_call_word : (operands : List Operand) (offset : ℤ) (object : ℕ) → IsTrue (fits_held_call operands) → Physical operands →
      HasWord offset object (instruction source.PseudoCallIndirect operands)
  held_call_word (Use r ∷ Mask ∷ rest) offset object form physical =
      with_word offset object (instruction source.PseudoCallIndirect (Use r ∷ Mask ∷ rest)) (machine_op Jalr 1 r 0 (pos 0)) refl
      (held_encodes 1 r (omega arith) (physical 0 Mask (omega arith)))
  held_call_word operands offset object form physical = absurd cc

  held_tail_word : (operands : List Operand) (offset : ℤ) (object : ℕ) → IsTrue (fits_held_tail operands) →
      HasWord offset object (instruction source.PseudoTailIndirect operands)
  held_tail_word (ImplicitUse r ∷ rest) offset object form =
      let callee = tail_callee r (and_parts (is_held_tail_register r) (list_all is_held_tail_use rest) form).0 in
      with_word offset object (instruction source.PseudoTailIndirect (ImplicitUse r ∷ rest)) (machine_op Jalr 0 r 0 (pos 0))
      (ap (held_fields 0) (held_fit r rest (callee_not_two r callee))) (held_encodes 0 r (omega arith) (callee_low r callee))
  held_tail_word operands offset object form = absurd cc

  held_gone_word : (operands : List Operand) (offset : ℤ) (object : ℕ) → IsTrue (fits_held_gone operands) →
      HasWord offset object (instruction source.NoReturnCallIndirect operands)
  held_gone_word (ImplicitUse r ∷ Mask ∷ rest) offset object form =
      let is = held_callee r (and_parts (is_call_register r) (list_all is_last_argument rest) form).0 in
      with_word offset object (instruction source.NoReturnCallIndirect (ImplicitUse r ∷ Mask ∷ rest)) (machine_op Jalr 1 r 0 (pos 0))
      (ap (held_fields 1) (held_fit r (Mask ∷ rest) is.0)) (held_encodes 1 r (omega arith) is.1)
  held_gone_word operands offset object form = absurd cc

  -- what names a callee has two words
  named_call : (operands : List Operand) → IsTrue (fits_call operands) → has_site (call_row operands) ≡ true
  named_call (Symbol name ∷ Mask ∷ rest) form = refl
  named_call operands form = absurd cc

  named_tail : (operands : List Operand) → IsTrue (fits_tail operands) → has_site (tail_row operands) ≡ true
  named_tail (Symbol name ∷ rest) form = refl
  named_tail operands form = absurd cc

  named_gone : (operands : List Operand) → IsTrue (fits_gone operands) → has_site (gone_row operands) ≡ true
  named_gone (Symbol name ∷ Mask ∷ rest) form = refl
  named_gone operands form = absurd cc

  -- every instruction that names no callee has its word
  pub code_word : (op : Op) (operands : List Operand) (offset : ℤ) → IsTrue (has_form op operands) → Physical operands →
      SlotIn slots (row_of (instruction op operands)) → ObjectIn objects (row_of (instruction op operands)) →
      AccessReaches own objects (access_of (row_of (instruction op operands))) →
      OffsetFits (row_exit (row_of (instruction op operands))) offset → (has_site (row_of (instruction op operands)) ≡ true → ⊥) →
      HasWord offset (place (object_named (row_of (instruction op operands)))) (instruction op operands)
  code_word (source.Registers op) operands offset form physical slot inside reaches fit other = registers_word op operands offset _ form physical
  code_word (source.Immediate op) operands offset form physical slot inside reaches fit other = immediate_word op operands offset form physical inside reaches
  code_word source.Lui operands offset form physical slot inside reaches fit other = upper_word operands offset _ form physical
  code_word (source.Branch op) operands offset form physical slot inside reaches fit other = branch_word op operands offset _ form physical fit
  code_word (source.Load op) operands offset form physical slot inside reaches fit other = load_word op operands offset form physical slot inside
  code_word (source.Store op) operands offset form physical slot inside reaches fit other = store_word op operands offset form physical slot inside
  code_word source.Copy operands offset form physical slot inside reaches fit other = copy_word operands offset _ form physical
  code_word source.PseudoBr operands offset form physical slot inside reaches fit other = jump_word operands offset _ form fit
  code_word source.PseudoCall operands offset form physical slot inside reaches fit other = absurd (other (named_call operands form))
  code_word source.PseudoCallIndirect operands offset form physical slot inside reaches fit other = held_call_word operands offset _ form physical
  code_word source.PseudoTail operands offset form physical slot inside reaches fit other = absurd (other (named_tail operands form))
  code_word source.PseudoTailIndirect operands offset form physical slot inside reaches fit other = held_tail_word operands offset _ form
  code_word source.NoReturnCall operands offset form physical slot inside reaches fit other = absurd (other (named_gone operands form))
  code_word source.NoReturnCallIndirect operands offset form physical slot inside reaches fit other = held_gone_word operands offset _ form
  code_word source.PseudoRet operands offset form physical slot inside reaches fit other =
      with_word offset _ (instruction source.PseudoRet operands) (machine_op Jalr 0 1 0 (pos 0)) refl refl
