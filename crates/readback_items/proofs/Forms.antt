-- Each form of an instruction is read back from its line.
use Rattle.std.proofs.Common.{◌≡◌, ℕ, ℤ, ◌<◌, Bool, true, false, ◌&&◌, List, [], ◌∷◌, Option, Some, refl, sym, ap, subst, ◌∙◌}
use Rattle.std.specs.List.{list_all}
use Rattle.std.proofs.lemmas.Bool.{and_parts, false≢true}
use Rattle.rv64_instr.specs.declared.op.Op.{Op}
use Rattle.rv64_instr.specs.declared.op.Op.TheVariants.{Registers, Immediate, Lui, Branch, Load, Store, Copy}
use Rattle.rv64_instr.specs.declared.op.Op.TheVariants.{PseudoBr, PseudoCall, PseudoRet, PseudoCallIndirect}
use Rattle.rv64_instr.specs.declared.op.Op.TheVariants.{PseudoTail, PseudoTailIndirect, NoReturnCall, NoReturnCallIndirect}
use Rattle.rv64_instr.specs.declared.op.ImmediateOp.{ImmediateOp}
use Rattle.rv64_instr.specs.declared.op.ImmediateOp.TheVariants.{Addi}
use Rattle.rv64_instr.specs.declared.op.RegisterOp.{RegisterOp}
use Rattle.rv64_instr.specs.declared.op.BranchOp.{BranchOp}
use Rattle.rv64_instr.specs.declared.op.LoadOp.{LoadOp}
use Rattle.rv64_instr.specs.declared.op.StoreOp.{StoreOp}
use Rattle.rv64_instr.specs.declared.operand.Operand.{Operand}
use Rattle.rv64_instr.specs.declared.operand.Operand.TheVariants.{Def, Use, Imm, Slot, Object, Part, Block, Symbol, Mask}
use Rattle.rv64_instr.specs.declared.symbol.Half.TheVariants.{Upper, Lower}
use Rattle.rv64_instr.specs.Arithmetic.{load_width, store_width}
use Rattle.rv64_instr.specs.Form.{has_12_bits, is_immediate, is_addi, moves_slot, is_implicit, fits_registers, fits_immediate, fits_upper, fits_branch}
use Rattle.rv64_instr.specs.Form.{fits_load, fits_store, fits_copy, fits_jump, fits_call, has_form, is_within}
use Rattle.std.specs.Prelude.{pos, All}
use Rattle.std.proofs.lemmas.List.Elements.{All-head, All-tail}
use Rattle.rv64_instr.specs.declared.symbol.LinkedAddress.{LinkedAddress}
use Rattle.rv64_instr.specs.declared.symbol.Half.{Half}
use Rattle.read_item.specs.Opcode.{is_read}
use Rattle.read_program.proofs.Operands.{IsLimitedIn}
use Rattle.read_token.specs.declared.lexeme.Flag.TheVariants.{Plain}
use Rattle.read_item.specs.Code.{number_of, used, before, joined, set_by, definition, definitions, placed}
use Rattle.readback_items.specs.Forms.{register_name, register_form}
use Rattle.readback_items.specs.Code.{judged_operands}
use Rattle.readback_items.proofs.Clean.{sets_of, uses_of}
use Rattle.readback_items.proofs.Registers.{number_is}
use Rattle.readback_items.proofs.Operands.{Gives, given_same, given_slots, given_objects}
use Rattle.readback_items.proofs.Tails.{Tail, implicits, arguments, results}

-- operands that aren't of the linked language have no half of an address
no_part : (half : Half) (y : LinkedAddress) → IsLimitedIn false (Part half y) → ⊥
no_part half y small = false≢true small.0

second : (a b : Operand) (rest : List Operand) → All (IsLimitedIn false) (a ∷ b ∷ rest) → IsLimitedIn false b
second a b rest small = All-head (IsLimitedIn false) b rest (All-tail (IsLimitedIn false) a (b ∷ rest) small)

third : (a b c : Operand) (rest : List Operand) → All (IsLimitedIn false) (a ∷ b ∷ c ∷ rest) → IsLimitedIn false c
third a b c rest small = second b c rest (All-tail (IsLimitedIn false) a (b ∷ c ∷ rest) small)

-- the registers of a line give their operands
set_is : (r : ℕ) → r < 4128 → definition (register_form Plain r) ≡ Some (Def r)
set_is r small = ap (set_by Plain) (number_is Plain r small)

use_is : (r : ℕ) → r < 4128 → used Plain (number_of Plain (register_name r)) ≡ Some (Use r)
use_is r small = ap (used Plain) (number_is Plain r small)

abbrev pub Given : Op → List Operand → Type 0
Given op os = Gives op (sets_of os) (uses_of os) (judged_operands op os)

behind : (b : Bool) (rest : List Operand) → (b && list_all is_implicit rest) ≡ true → Tail rest
behind b rest e = implicits rest (and_parts b (list_all is_implicit rest) e).1

registers : (op : RegisterOp) (os : List Operand) → fits_registers os ≡ true → All (IsLimitedIn false) os → Given (Registers op) os
unfolding definitions placed
registers op (Def rd ∷ Use a ∷ Use b ∷ rest) e small =
    let t = implicits rest e in
    let rd_is = set_is rd (All-head (IsLimitedIn false) (Def rd) (Use a ∷ Use b ∷ rest) small) in
    let a_is = use_is a (second (Def rd) (Use a) (Use b ∷ rest) small) in
    let b_is = use_is b (third (Def rd) (Use a) (Use b) rest small) in
    given_same (Registers op) (Def rd ∷ Use a ∷ Use b ∷ []) rest t refl (record {
      slot = false;
      slot_is = refl;
      operands = λ i. joined (before (rd_is i) (Some [])) (before (a_is i) (before (b_is i) (t.placed i)));
      in_place = refl;
      form = e;
    })
registers op os e small = absurd cc

immediate_register : (op : ImmediateOp) (rd : ℕ) (a : ℕ) (i : ℤ) (rest : List Operand) → fits_immediate op (Def rd ∷ Use a ∷ Imm i ∷ rest) ≡ true →
    rd < 4128 → a < 4128 → Given (Immediate op) (Def rd ∷ Use a ∷ Imm i ∷ rest)
unfolding definitions placed
immediate_register op rd a i rest e rd_small a_small =
    let t = behind (is_immediate op i) rest e in
    given_same (Immediate op) (Def rd ∷ Use a ∷ Imm i ∷ []) rest t refl (record {
      slot = false;
      slot_is = refl;
      operands = λ k. joined (before (set_is rd rd_small k) (Some [])) (before (use_is a a_small k) (before (Some (Imm i)) (t.placed k)));
      in_place = refl;
      form = e;
    })

address_of_object : (rd : ℕ) (n : ℕ) (i : ℤ) (rest : List Operand) → fits_immediate Addi (Def rd ∷ Object n ∷ Imm i ∷ rest) ≡ true → rd < 4128 →
    Given (Immediate Addi) (Def rd ∷ Object n ∷ Imm i ∷ rest)
unfolding definitions placed
address_of_object rd n i rest e rd_small =
    let t = behind (is_immediate Addi i) rest e in
    given_objects (Immediate Addi) (Def rd ∷ Object n ∷ Imm i ∷ []) rest t (Def rd ∷ Slot n ∷ Imm i ∷ []) refl refl (record {
      slot = false;
      slot_is = refl;
      operands = λ k. joined (before (set_is rd rd_small k) (Some [])) (before (Some (Object n)) (before (Some (Imm i)) (t.placed k)));
      in_place = refl;
      form = e;
    })

addi_only : (op : ImmediateOp) → is_addi op ≡ true → Addi ≡ op
addi_only Addi e = refl
addi_only op e = absurd cc

immediate : (op : ImmediateOp) (os : List Operand) → fits_immediate op os ≡ true → All (IsLimitedIn false) os → Given (Immediate op) os
immediate op (Def rd ∷ Use a ∷ Imm i ∷ rest) e small =
    immediate_register op rd a i rest e (All-head (IsLimitedIn false) (Def rd) (Use a ∷ Imm i ∷ rest) small) (second (Def rd) (Use a) (Imm i ∷ rest) small)
immediate op (Def rd ∷ Object n ∷ Imm i ∷ rest) e small =
    let parts = and_parts (is_addi op && is_immediate op i) (list_all is_implicit rest) e in
    let is = and_parts (is_addi op) (is_immediate op i) parts.0 in
    let same = addi_only op is.0 in
    subst (λ (o : ImmediateOp). Given (Immediate o) (Def rd ∷ Object n ∷ Imm i ∷ rest)) same
    (address_of_object rd n i rest (subst (λ (o : ImmediateOp). fits_immediate o (Def rd ∷ Object n ∷ Imm i ∷ rest) ≡ true) (sym same) e)
    (All-head (IsLimitedIn false) (Def rd) (Object n ∷ Imm i ∷ rest) small))
immediate op (Def rd ∷ Use a ∷ Part Lower y ∷ rest) e small = absurd (no_part Lower y (third (Def rd) (Use a) (Part Lower y) rest small))
immediate op os e small = absurd cc

upper : (os : List Operand) → fits_upper os ≡ true → All (IsLimitedIn false) os → Given Lui os
unfolding definitions placed
upper (Def rd ∷ Imm i ∷ rest) e small =
    let t = behind (is_within (pos 0) (pos 1048575) i) rest e in
    let rd_is = set_is rd (All-head (IsLimitedIn false) (Def rd) (Imm i ∷ rest) small) in
    given_same Lui (Def rd ∷ Imm i ∷ []) rest t refl (record {
      slot = false;
      slot_is = refl;
      operands = λ k. joined (before (rd_is k) (Some [])) (before (Some (Imm i)) (t.placed k));
      in_place = refl;
      form = e;
    })
upper (Def rd ∷ Part Upper y ∷ rest) e small = absurd (no_part Upper y (second (Def rd) (Part Upper y) rest small))
upper os e small = absurd cc

branch : (op : BranchOp) (os : List Operand) → fits_branch os ≡ true → All (IsLimitedIn false) os → Given (Branch op) os
unfolding definitions placed
branch op (Use a ∷ Use b ∷ Block n ∷ rest) e small =
    let t = implicits rest e in
    let a_is = use_is a (All-head (IsLimitedIn false) (Use a) (Use b ∷ Block n ∷ rest) small) in
    let b_is = use_is b (second (Use a) (Use b) (Block n ∷ rest) small) in
    given_same (Branch op) (Use a ∷ Use b ∷ Block n ∷ []) rest t refl (record {
      slot = false;
      slot_is = refl;
      operands = λ i. joined (Some []) (before (a_is i) (before (b_is i) (before (Some (Block n)) (t.placed i))));
      in_place = refl;
      form = e;
    })
branch op os e small = absurd cc

-- ---- loads

load_register : (op : LoadOp) (rd : ℕ) (a : ℕ) (i : ℤ) (rest : List Operand) → fits_load op (Def rd ∷ Use a ∷ Imm i ∷ rest) ≡ true →
    rd < 4128 → a < 4128 → Given (Load op) (Def rd ∷ Use a ∷ Imm i ∷ rest)
unfolding definitions placed
load_register op rd a i rest e rd_small a_small =
    let t = behind (has_12_bits i) rest e in
    given_same (Load op) (Def rd ∷ Use a ∷ Imm i ∷ []) rest t refl (record {
      slot = moves_slot (load_width op) i;
      slot_is = refl;
      operands = λ k. joined (before (set_is rd rd_small k) (Some [])) (before (use_is a a_small k) (before (Some (Imm i)) (t.placed k)));
      in_place = refl;
      form = e;
    })

load_slot : (op : LoadOp) (rd : ℕ) (n : ℕ) (i : ℤ) (rest : List Operand) → fits_load op (Def rd ∷ Slot n ∷ Imm i ∷ rest) ≡ true → rd < 4128 →
    Given (Load op) (Def rd ∷ Slot n ∷ Imm i ∷ rest)
unfolding definitions placed
load_slot op rd n i rest e rd_small =
    let parts = and_parts (moves_slot (load_width op) i) (list_all is_implicit rest) e in
    let t = implicits rest parts.1 in
    given_same (Load op) (Def rd ∷ Slot n ∷ Imm i ∷ []) rest t refl (record {
      slot = true;
      slot_is = parts.0;
      operands = λ k. joined (before (set_is rd rd_small k) (Some [])) (before (Some (Slot n)) (before (Some (Imm i)) (t.placed k)));
      in_place = refl;
      form = e;
    })

load_object : (op : LoadOp) (rd : ℕ) (n : ℕ) (i : ℤ) (rest : List Operand) → fits_load op (Def rd ∷ Object n ∷ Imm i ∷ rest) ≡ true → rd < 4128 →
    (b : Bool) → moves_slot (load_width op) i ≡ b → Given (Load op) (Def rd ∷ Object n ∷ Imm i ∷ rest)
unfolding definitions placed
load_object op rd n i rest e rd_small true is =
    let parts = and_parts (has_12_bits i) (list_all is_implicit rest) e in
    let t = implicits rest parts.1 in
    let form = ap (λ (b : Bool). b && list_all is_implicit rest) is ∙ parts.1 in
    given_slots (Load op) (Def rd ∷ Object n ∷ Imm i ∷ []) rest t (Def rd ∷ Slot n ∷ Imm i ∷ []) refl form (record {
      slot = true;
      slot_is = is;
      operands = λ k. joined (before (set_is rd rd_small k) (Some [])) (before (Some (Slot n)) (before (Some (Imm i)) (t.placed k)));
      in_place = refl;
      form = form;
    })
load_object op rd n i rest e rd_small false is =
    let parts = and_parts (has_12_bits i) (list_all is_implicit rest) e in
    let t = implicits rest parts.1 in
    given_objects (Load op) (Def rd ∷ Object n ∷ Imm i ∷ []) rest t (Def rd ∷ Slot n ∷ Imm i ∷ []) refl
    (ap (λ (b : Bool). b && list_all is_implicit rest) is) (record {
      slot = false;
      slot_is = is;
      operands = λ k. joined (before (set_is rd rd_small k) (Some [])) (before (Some (Object n)) (before (Some (Imm i)) (t.placed k)));
      in_place = refl;
      form = e;
    })

load : (op : LoadOp) (os : List Operand) → fits_load op os ≡ true → All (IsLimitedIn false) os → Given (Load op) os
load op (Def rd ∷ Use a ∷ Imm i ∷ rest) e small =
    load_register op rd a i rest e (All-head (IsLimitedIn false) (Def rd) (Use a ∷ Imm i ∷ rest) small) (second (Def rd) (Use a) (Imm i ∷ rest) small)
load op (Def rd ∷ Slot n ∷ Imm i ∷ rest) e small = load_slot op rd n i rest e (All-head (IsLimitedIn false) (Def rd) (Slot n ∷ Imm i ∷ rest) small)
load op (Def rd ∷ Object n ∷ Imm i ∷ rest) e small =
    load_object op rd n i rest e (All-head (IsLimitedIn false) (Def rd) (Object n ∷ Imm i ∷ rest) small) (moves_slot (load_width op) i) refl
load op (Def rd ∷ Use a ∷ Part Lower y ∷ rest) e small = absurd (no_part Lower y (third (Def rd) (Use a) (Part Lower y) rest small))
load op os e small = absurd cc

-- ---- stores

store_register : (op : StoreOp) (rs : ℕ) (a : ℕ) (i : ℤ) (rest : List Operand) → fits_store op (Use rs ∷ Use a ∷ Imm i ∷ rest) ≡ true →
    rs < 4128 → a < 4128 → Given (Store op) (Use rs ∷ Use a ∷ Imm i ∷ rest)
unfolding definitions placed
store_register op rs a i rest e rs_small a_small =
    let t = behind (has_12_bits i) rest e in
    given_same (Store op) (Use rs ∷ Use a ∷ Imm i ∷ []) rest t refl (record {
      slot = moves_slot (store_width op) i;
      slot_is = refl;
      operands = λ k. joined (Some []) (before (use_is rs rs_small k) (before (use_is a a_small k) (before (Some (Imm i)) (t.placed k))));
      in_place = refl;
      form = e;
    })

store_slot : (op : StoreOp) (rs : ℕ) (n : ℕ) (i : ℤ) (rest : List Operand) → fits_store op (Use rs ∷ Slot n ∷ Imm i ∷ rest) ≡ true → rs < 4128 →
    Given (Store op) (Use rs ∷ Slot n ∷ Imm i ∷ rest)
unfolding definitions placed
store_slot op rs n i rest e rs_small =
    let parts = and_parts (moves_slot (store_width op) i) (list_all is_implicit rest) e in
    let t = implicits rest parts.1 in
    given_same (Store op) (Use rs ∷ Slot n ∷ Imm i ∷ []) rest t refl (record {
      slot = true;
      slot_is = parts.0;
      operands = λ k. joined (Some []) (before (use_is rs rs_small k) (before (Some (Slot n)) (before (Some (Imm i)) (t.placed k))));
      in_place = refl;
      form = e;
    })

store_object : (op : StoreOp) (rs : ℕ) (n : ℕ) (i : ℤ) (rest : List Operand) → fits_store op (Use rs ∷ Object n ∷ Imm i ∷ rest) ≡ true → rs < 4128 →
    (b : Bool) → moves_slot (store_width op) i ≡ b → Given (Store op) (Use rs ∷ Object n ∷ Imm i ∷ rest)
unfolding definitions placed
store_object op rs n i rest e rs_small true is =
    let parts = and_parts (has_12_bits i) (list_all is_implicit rest) e in
    let t = implicits rest parts.1 in
    let form = ap (λ (b : Bool). b && list_all is_implicit rest) is ∙ parts.1 in
    given_slots (Store op) (Use rs ∷ Object n ∷ Imm i ∷ []) rest t (Use rs ∷ Slot n ∷ Imm i ∷ []) refl form (record {
      slot = true;
      slot_is = is;
      operands = λ k. joined (Some []) (before (use_is rs rs_small k) (before (Some (Slot n)) (before (Some (Imm i)) (t.placed k))));
      in_place = refl;
      form = form;
    })
store_object op rs n i rest e rs_small false is =
    let parts = and_parts (has_12_bits i) (list_all is_implicit rest) e in
    let t = implicits rest parts.1 in
    given_objects (Store op) (Use rs ∷ Object n ∷ Imm i ∷ []) rest t (Use rs ∷ Slot n ∷ Imm i ∷ []) refl
    (ap (λ (b : Bool). b && list_all is_implicit rest) is) (record {
      slot = false;
      slot_is = is;
      operands = λ k. joined (Some []) (before (use_is rs rs_small k) (before (Some (Object n)) (before (Some (Imm i)) (t.placed k))));
      in_place = refl;
      form = e;
    })

store : (op : StoreOp) (os : List Operand) → fits_store op os ≡ true → All (IsLimitedIn false) os → Given (Store op) os
store op (Use rs ∷ Use a ∷ Imm i ∷ rest) e small =
    store_register op rs a i rest e (All-head (IsLimitedIn false) (Use rs) (Use a ∷ Imm i ∷ rest) small) (second (Use rs) (Use a) (Imm i ∷ rest) small)
store op (Use rs ∷ Slot n ∷ Imm i ∷ rest) e small = store_slot op rs n i rest e (All-head (IsLimitedIn false) (Use rs) (Slot n ∷ Imm i ∷ rest) small)
store op (Use rs ∷ Object n ∷ Imm i ∷ rest) e small =
    store_object op rs n i rest e (All-head (IsLimitedIn false) (Use rs) (Object n ∷ Imm i ∷ rest) small) (moves_slot (store_width op) i) refl
store op (Use rs ∷ Use a ∷ Part Lower y ∷ rest) e small = absurd (no_part Lower y (third (Use rs) (Use a) (Part Lower y) rest small))
store op os e small = absurd cc

-- ---- others

copy : (os : List Operand) → fits_copy os ≡ true → All (IsLimitedIn false) os → Given Copy os
unfolding definitions placed
copy (Def rd ∷ Use rs ∷ rest) e small =
    let t = implicits rest e in
    let rd_is = set_is rd (All-head (IsLimitedIn false) (Def rd) (Use rs ∷ rest) small) in
    let rs_is = use_is rs (second (Def rd) (Use rs) rest small) in
    given_same Copy (Def rd ∷ Use rs ∷ []) rest t refl (record {
      slot = false;
      slot_is = refl;
      operands = λ i. joined (before (rd_is i) (Some [])) (before (rs_is i) (t.placed i));
      in_place = refl;
      form = e;
    })
copy os e small = absurd cc

jump : (os : List Operand) → fits_jump os ≡ true → Given PseudoBr os
unfolding definitions placed
jump (Block n ∷ rest) e =
    let t = implicits rest e in
    given_same PseudoBr (Block n ∷ []) rest t refl (record {
      slot = false;
      slot_is = refl;
      operands = ap (λ (o : Option (List Operand)). joined (Some []) (before (Some (Block n)) o)) t.placed;
      in_place = refl;
      form = e;
    })
jump os e = absurd cc

call : (os : List Operand) → fits_call os ≡ true → All (IsLimitedIn false) os → Given PseudoCall os
unfolding definitions placed
call (Symbol name ∷ Mask ∷ rest) e small =
    let t = arguments rest e (All-tail (IsLimitedIn false) Mask rest (All-tail (IsLimitedIn false) (Symbol name) (Mask ∷ rest) small)) in
    given_same PseudoCall (Symbol name ∷ Mask ∷ []) rest t refl (record {
      slot = false;
      slot_is = refl;
      operands = ap (λ (o : Option (List Operand)). joined (Some []) (before (Some (Symbol name)) (before (Some Mask) o))) t.placed;
      in_place = refl;
      form = e;
    })
call os e small = absurd cc

return' : (os : List Operand) → has_form PseudoRet os ≡ true → All (IsLimitedIn false) os → Given PseudoRet os
unfolding definitions
return' os e small =
    let t = results os e small in
    given_same PseudoRet [] os t refl (record {
      slot = false;
      slot_is = refl;
      operands = ap (joined (Some [])) t.placed;
      in_place = refl;
      form = e;
    })

pub operands_given : (op : Op) (os : List Operand) → has_form op os ≡ true → All (IsLimitedIn false) os → is_read false op ≡ true → Given op os
operands_given (Registers op) os e small read = registers op os e small
operands_given (Immediate op) os e small read = immediate op os e small
operands_given Lui os e small read = upper os e small
operands_given (Branch op) os e small read = branch op os e small
operands_given (Load op) os e small read = load op os e small
operands_given (Store op) os e small read = store op os e small
operands_given Copy os e small read = copy os e small
operands_given PseudoBr os e small read = jump os e
operands_given PseudoCall os e small read = call os e small
operands_given PseudoRet os e small read = return' os e small
operands_given PseudoCallIndirect os e small read = cc
operands_given PseudoTail os e small read = cc
operands_given PseudoTailIndirect os e small read = cc
operands_given NoReturnCall os e small read = cc
operands_given NoReturnCallIndirect os e small read = cc
