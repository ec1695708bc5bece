-- The instruction that a text stands for.
use Rattle.std.proofs.Common.{◌≡◌, ℕ, ℤ, pos, Bool, true, false, ◌&&◌, not, nat_lt, nat_eq, List, [], ◌∷◌, ◌++◌, Option, Some, None, refl, sym}
use Rattle.std.proofs.Common.{ap, subst, ◌∙◌, append_assoc}
use Rattle.std.specs.Prelude.{codes, cond, filter, map, All}
use Rattle.std.specs.List.{list_all}
use Rattle.std.proofs.lemmas.Bool.{and_parts}
use Rattle.std.proofs.lemmas.List.Elements.{All-head, All-tail}
use Rattle.rv64_instr.specs.declared.op.Op.{Op}
use Rattle.rv64_instr.specs.declared.op.ImmediateOp.{ImmediateOp}
use Rattle.rv64_instr.specs.declared.op.LoadOp.{LoadOp}
use Rattle.rv64_instr.specs.declared.op.RegisterOp.TheVariants.{Add}
use Rattle.rv64_instr.specs.declared.op.ImmediateOp.TheVariants.{Addi}
use Rattle.rv64_instr.specs.declared.op.BranchOp.TheVariants.{Beq}
use Rattle.rv64_instr.specs.declared.op.LoadOp.TheVariants.{Lb}
use Rattle.rv64_instr.specs.declared.op.StoreOp.TheVariants.{Sb}
use Rattle.rv64_instr.specs.declared.op.StoreOp.{StoreOp}
use Rattle.rv64_instr.specs.declared.op.Op.TheVariants.{Registers, Immediate, Lui, Branch, Load, Store, Copy}
use Rattle.rv64_instr.specs.declared.op.Op.TheVariants.{PseudoBr, PseudoCall, PseudoRet, PseudoCallIndirect}
use Rattle.rv64_instr.specs.declared.op.Op.TheVariants.{PseudoTail, PseudoTailIndirect, NoReturnCall, NoReturnCallIndirect}
use Rattle.rv64_instr.specs.declared.operand.Operand.{Operand}
use Rattle.rv64_instr.specs.declared.operand.Operand.TheVariants.{Def, Use, Imm, Slot, Object, Part, Block, Symbol, Mask, ImplicitUse}
use Rattle.rv64_instr.specs.declared.symbol.Half.TheVariants.{Upper, Lower}
use Rattle.rv64_instr.specs.Instruction.{Instruction}
use Rattle.rv64_instr.specs.Arithmetic.{load_width, store_width}
use Rattle.rv64_instr.specs.Form.{has_form, fits_registers, fits_immediate, fits_upper, fits_branch, fits_load, fits_store, fits_copy, fits_jump, fits_call}
use Rattle.rv64_instr.specs.Form.{has_implicit_callee, is_within, has_12_bits, is_immediate, is_addi, moves_slot, is_implicit, is_argument}
use Rattle.rv64_instr.specs.Form.{is_result, is_held_tail_use, is_held_tail_register, fits_held_call, fits_held_gone, fits_tail, fits_held_tail}
use Rattle.rv64_instr.proofs.Tails.{gone_calls, held_gone_arguments, held_tail_uses}
use Rattle.rv64_instr.specs.Mnemonic.{mnemonic_of}
use Rattle.mir_printer.specs.Spelling.{definitions_text, instruction_text, is_definition, register_text, uses_text, as_callee, held_uses}
use Rattle.mir_printer.specs.Printable.{IsNumber, HasNumbers, IsPrintableInstruction, as_slot}
use Rattle.mir_printer.proofs.Cuts.{front_one, Stops}
use Rattle.mir_printer.proofs.Opcodes.{is_letter, opcode_one}
use Rattle.mir_printer.proofs.Operands.{register_one, IsUse, AllUses, IsTail, uses_one}
use Rattle.mir_printer.proofs.Stack.{Each, IsNoSlot, OneKind, no_slots, no_objects, IsTold, operands_one, implicit_plain, argument_plain, result_plain}
use Rattle.mir_printer.proofs.Stack.{no_slots_of, no_objects_of, tail_plain}

-- ---- the form: a definition at most at the front, and slots alone or objects alone

abbrev NoDefinitions : List Operand → Type 0
NoDefinitions os = Each (λ o. is_definition o ≡ false) os

abbrev with_target : Option ℕ → List Operand → List Operand
with_target None uses = uses
with_target (Some rd) uses = Def rd ∷ uses

record Parts (operands : List Operand) : Type 0 where
  target : Option ℕ
  uses : List Operand
  parts : operands ≡ with_target target uses
  none : NoDefinitions uses
  kind : OneKind operands

implicit_none : (o : Operand) → is_implicit o ≡ true → is_definition o ≡ false
implicit_none (Def r) e = absurd cc
implicit_none o e = refl

argument_none : (o : Operand) → is_argument o ≡ true → is_definition o ≡ false
argument_none (Def r) e = absurd cc
argument_none o e = refl

result_none : (o : Operand) → is_result o ≡ true → is_definition o ≡ false
result_none (Def r) e = absurd cc
result_none o e = refl

tail_none : (o : Operand) → is_held_tail_use o ≡ true → is_definition o ≡ false
tail_none (Def r) e = absurd cc
tail_none o e = refl

all_none : (p : Operand → Bool) → ((o : Operand) → p o ≡ true → is_definition o ≡ false) → (os : List Operand) → list_all p os ≡ true → NoDefinitions os
all_none p each [] all = tt
all_none p each (o ∷ os) all = let both = and_parts (p o) (list_all p os) all in (each o both.0, all_none p each os both.1)

implicits : (os : List Operand) → list_all is_implicit os ≡ true → NoDefinitions os
implicits os all = all_none is_implicit implicit_none os all

plain : (os : List Operand) → list_all is_implicit os ≡ true → Each IsNoSlot os
plain os all = no_slots_of is_implicit implicit_plain os all

behind : (a b : Bool) → (a && b) ≡ true → b ≡ true
behind a b e = (and_parts a b e).1

-- `rd = OP` and two operands that are no slots
sets : (rd : ℕ) (a b : Operand) (rest : List Operand) → is_definition a ≡ false → is_definition b ≡ false → IsNoSlot a → IsNoSlot b →
    list_all is_implicit rest ≡ true → Parts (Def rd ∷ a ∷ b ∷ rest)
sets rd a b rest x y u v all = record {
  target = Some rd;
  uses = a ∷ b ∷ rest;
  parts = refl;
  none = (x, (y, implicits rest all));
  kind = no_slots (refl, (u, (v, plain rest all)));
}

-- `OP` and three such operands
takes : (a b c : Operand) (rest : List Operand) → is_definition a ≡ false → is_definition b ≡ false → is_definition c ≡ false → IsNoSlot a → IsNoSlot b →
    IsNoSlot c → list_all is_implicit rest ≡ true → Parts (a ∷ b ∷ c ∷ rest)
takes a b c rest x y z u v w all = record {
  target = None;
  uses = a ∷ b ∷ c ∷ rest;
  parts = refl;
  none = (x, (y, (z, implicits rest all)));
  kind = no_slots (u, (v, (w, plain rest all)));
}

loads_slot : (rd n : ℕ) (i : ℤ) (rest : List Operand) → list_all is_implicit rest ≡ true → Parts (Def rd ∷ Slot n ∷ Imm i ∷ rest)
loads_slot rd n i rest all = record {
  target = Some rd;
  uses = Slot n ∷ Imm i ∷ rest;
  parts = refl;
  none = (refl, (refl, implicits rest all));
  kind = no_objects (ap (λ (os : List Operand). Def rd ∷ Slot n ∷ Imm i ∷ os) (no_objects_of rest all));
}

stores_slot : (rs n : ℕ) (i : ℤ) (rest : List Operand) → list_all is_implicit rest ≡ true → Parts (Use rs ∷ Slot n ∷ Imm i ∷ rest)
stores_slot rs n i rest all = record {
  target = None;
  uses = Use rs ∷ Slot n ∷ Imm i ∷ rest;
  parts = refl;
  none = (refl, (refl, (refl, implicits rest all)));
  kind = no_objects (ap (λ (os : List Operand). Use rs ∷ Slot n ∷ Imm i ∷ os) (no_objects_of rest all));
}

registers_parts : (os : List Operand) → fits_registers os ≡ true → Parts os
registers_parts (Def rd ∷ Use a ∷ Use b ∷ rest) e = sets rd (Use a) (Use b) rest refl refl refl refl e
registers_parts os e = absurd cc

immediate_parts : (op : ImmediateOp) (os : List Operand) → fits_immediate op os ≡ true → Parts os
immediate_parts op (Def rd ∷ Use a ∷ Imm i ∷ rest) e = sets rd (Use a) (Imm i) rest refl refl refl refl
    (behind (is_immediate op i) (list_all is_implicit rest) e)
immediate_parts op (Def rd ∷ Object n ∷ Imm i ∷ rest) e =
    sets rd (Object n) (Imm i) rest refl refl refl refl (behind (is_addi op && is_immediate op i) (list_all is_implicit rest) e)
immediate_parts op (Def rd ∷ Use a ∷ Part Lower y ∷ rest) e = sets rd (Use a) (Part Lower y) rest refl refl refl refl
    (behind (is_addi op) (list_all is_implicit rest) e)
immediate_parts op os e = absurd cc

upper_parts : (os : List Operand) → fits_upper os ≡ true → Parts os
upper_parts (Def rd ∷ Imm i ∷ rest) e =
    let all = behind (is_within (pos 0) (pos 1048575) i) (list_all is_implicit rest) e in
    record { target = Some rd; uses = Imm i ∷ rest; parts = refl; none = (refl, implicits rest all); kind = no_slots (refl, (refl, plain rest all)) }
upper_parts (Def rd ∷ Part Upper y ∷ rest) e =
    record { target = Some rd; uses = Part Upper y ∷ rest; parts = refl; none = (refl, implicits rest e); kind = no_slots (refl, (refl, plain rest e)) }
upper_parts os e = absurd cc

branch_parts : (os : List Operand) → fits_branch os ≡ true → Parts os
branch_parts (Use a ∷ Use b ∷ Block n ∷ rest) e = takes (Use a) (Use b) (Block n) rest refl refl refl refl refl refl e
branch_parts os e = absurd cc

load_parts : (op : LoadOp) (os : List Operand) → fits_load op os ≡ true → Parts os
load_parts op (Def rd ∷ Use a ∷ Imm i ∷ rest) e = sets rd (Use a) (Imm i) rest refl refl refl refl (behind (has_12_bits i) (list_all is_implicit rest) e)
load_parts op (Def rd ∷ Slot n ∷ Imm i ∷ rest) e = loads_slot rd n i rest (behind (moves_slot (load_width op) i) (list_all is_implicit rest) e)
load_parts op (Def rd ∷ Object n ∷ Imm i ∷ rest) e = sets rd (Object n) (Imm i) rest refl refl refl refl (behind (has_12_bits i) (list_all is_implicit rest) e)
load_parts op (Def rd ∷ Use a ∷ Part Lower y ∷ rest) e = sets rd (Use a) (Part Lower y) rest refl refl refl refl e
load_parts op os e = absurd cc

store_parts : (op : StoreOp) (os : List Operand) → fits_store op os ≡ true → Parts os
store_parts op (Use a ∷ Use b ∷ Imm i ∷ rest) e = takes (Use a) (Use b) (Imm i) rest refl refl refl refl refl refl
    (behind (has_12_bits i) (list_all is_implicit rest) e)
store_parts op (Use a ∷ Slot n ∷ Imm i ∷ rest) e = stores_slot a n i rest (behind (moves_slot (store_width op) i) (list_all is_implicit rest) e)
store_parts op (Use a ∷ Object n ∷ Imm i ∷ rest) e = takes (Use a) (Object n) (Imm i) rest refl refl refl refl refl refl
    (behind (has_12_bits i) (list_all is_implicit rest) e)
store_parts op (Use a ∷ Use b ∷ Part Lower y ∷ rest) e = takes (Use a) (Use b) (Part Lower y) rest refl refl refl refl refl refl e
store_parts op os e = absurd cc

copy_parts : (os : List Operand) → fits_copy os ≡ true → Parts os
copy_parts (Def rd ∷ Use a ∷ rest) e =
    record { target = Some rd; uses = Use a ∷ rest; parts = refl; none = (refl, implicits rest e); kind = no_slots (refl, (refl, plain rest e)) }
copy_parts os e = absurd cc

jump_parts : (os : List Operand) → fits_jump os ≡ true → Parts os
jump_parts (Block n ∷ rest) e = record {
  target = None;
  uses = Block n ∷ rest;
  parts = refl;
  none = (refl, implicits rest e);
  kind = no_slots
      (refl, plain rest e);
}
jump_parts os e = absurd cc

call_parts : (os : List Operand) → fits_call os ≡ true → Parts os
call_parts (Symbol name ∷ Mask ∷ rest) e = record {
  target = None;
  uses = Symbol name ∷ Mask ∷ rest;
  parts = refl;
  none = (refl, (refl, all_none is_argument argument_none rest e));
  kind = no_slots (refl, (refl, no_slots_of is_argument argument_plain rest e));
}
call_parts os e = absurd cc

held_call_parts : (os : List Operand) → fits_held_call os ≡ true → Parts os
held_call_parts (Use r ∷ Mask ∷ rest) e = record {
  target = None;
  uses = Use r ∷ Mask ∷ rest;
  parts = refl;
  none = (refl, (refl, all_none is_argument argument_none rest e));
  kind = no_slots (refl, (refl, no_slots_of is_argument argument_plain rest e));
}
held_call_parts os e = absurd cc

held_gone_parts : (os : List Operand) → fits_held_gone os ≡ true → Parts os
held_gone_parts (ImplicitUse r ∷ Mask ∷ rest) e = record {
  target = None;
  uses = ImplicitUse r ∷ Mask ∷ rest;
  parts = refl;
  none = (refl, (refl, all_none is_argument argument_none rest (held_gone_arguments r rest e)));
  kind = no_slots (refl, (refl, no_slots_of is_argument argument_plain rest (held_gone_arguments r rest e)));
}
held_gone_parts os e = absurd cc

tail_parts : (os : List Operand) → fits_tail os ≡ true → Parts os
tail_parts (Symbol name ∷ rest) e =
    record {
      target = None;
      uses = Symbol name ∷ rest;
      parts = refl;
      none = (refl, all_none is_held_tail_use tail_none rest (held_tail_uses rest e));
      kind =
          no_slots (refl, no_slots_of is_held_tail_use tail_plain rest (held_tail_uses rest e));
    }
tail_parts os e = absurd cc

held_tail_parts : (os : List Operand) → fits_held_tail os ≡ true → Parts os
held_tail_parts (ImplicitUse r ∷ rest) e =
    record {
      target = None;
      uses = ImplicitUse r ∷ rest;
      parts = refl;
      none =
          (refl, all_none is_held_tail_use tail_none rest (behind (is_held_tail_register r) (list_all is_held_tail_use rest) e));
      kind =
          no_slots (refl, no_slots_of is_held_tail_use tail_plain rest (behind (is_held_tail_register r) (list_all is_held_tail_use rest) e));
    }
held_tail_parts os e = absurd cc

parts_of : (op : Op) (os : List Operand) → has_form op os ≡ true → Parts os
parts_of (Registers op) os e = registers_parts os e
parts_of (Immediate op) os e = immediate_parts op os e
parts_of Lui os e = upper_parts os e
parts_of (Branch op) os e = branch_parts os e
parts_of (Load op) os e = load_parts op os e
parts_of (Store op) os e = store_parts op os e
parts_of Copy os e = copy_parts os e
parts_of PseudoBr os e = jump_parts os e
parts_of PseudoCall os e = call_parts os e
parts_of PseudoCallIndirect os e = held_call_parts os e
parts_of PseudoTail os e = tail_parts os e
parts_of PseudoTailIndirect os e = held_tail_parts os e
parts_of NoReturnCall os e = call_parts os (gone_calls os e)
parts_of NoReturnCallIndirect os e = held_gone_parts os e
parts_of PseudoRet os e =
    record { target = None; uses = os; parts = refl; none = all_none is_result result_none os e; kind = no_slots (no_slots_of is_result result_plain os e) }

-- ---- the text of an instruction before what follows it

abbrev after_target : Op → List Operand → List ℕ → List ℕ
after_target op uses tail = mnemonic_of op ++ (uses_text uses ++ tail)

abbrev before : Option ℕ → Op → List Operand → List ℕ → List ℕ
before None op uses tail = after_target op uses tail
before (Some rd) op uses tail = register_text rd ++ (codes " = " ++ after_target op uses tail)

no_definitions : (os : List Operand) → NoDefinitions os → filter is_definition os ≡ []
no_definitions [] none = refl
no_definitions (o ∷ os) none = rw (none.0) (no_definitions os none.1)

all_uses : (os : List Operand) → NoDefinitions os → filter (λ o. not (is_definition o)) os ≡ os
all_uses [] none = refl
all_uses (o ∷ os) none = rw (none.0) (ap (λ (us : List Operand). o ∷ us) (all_uses os none.1))

-- ---- a callee's register that is an implicit use, which prints as one that is read

abbrev BeginsImplicit : List Operand → Type 0
BeginsImplicit (ImplicitUse r ∷ rest) = Unit {0}
BeginsImplicit _ = ⊥

-- operands of such a call begin with an implicit use
abbrev IsBegun : (held : Bool) → List Operand → Type 0
IsBegun true os = BeginsImplicit os
IsBegun false os = Unit {0}

held_begins : (os : List Operand) → fits_held_gone os ≡ true → BeginsImplicit os
held_begins (ImplicitUse r ∷ Mask ∷ rest) e = tt
held_begins os e = absurd cc

tail_begins : (os : List Operand) → fits_held_tail os ≡ true → BeginsImplicit os
tail_begins (ImplicitUse r ∷ rest) e = tt
tail_begins os e = absurd cc

begun : (op : Op) (os : List Operand) → has_form op os ≡ true → IsBegun (has_implicit_callee op) os
begun PseudoTailIndirect os e = tail_begins os e
begun NoReturnCallIndirect os e = held_begins os e
begun op os e = tt

uses_begun : (held : Bool) (target : Option ℕ) (uses : List Operand) → IsBegun held (with_target target uses) → IsBegun held uses
uses_begun true None uses h = h
uses_begun true (Some rd) uses h = absurd h
uses_begun false target uses h = tt

abbrev callee_first : List Operand → List Operand
callee_first [] = []
callee_first (o ∷ os) = as_callee o ∷ os

-- operands other than definitions, as they print
abbrev shown : (held : Bool) → List Operand → List Operand
shown held uses = cond held (callee_first uses) uses

uses_shown : (held : Bool) (target : Option ℕ) (uses : List Operand) → NoDefinitions uses → IsBegun held (with_target target uses) →
    cond held (held_uses (with_target target uses)) (filter (λ o. not (is_definition o)) (with_target target uses)) ≡ shown held uses
uses_shown true None [] none h = absurd h
uses_shown true None (o ∷ os) none h = ap (λ (us : List Operand). as_callee o ∷ us) (all_uses os none.1)
uses_shown true (Some rd) uses none h = absurd h
uses_shown false None uses none h = all_uses uses none
uses_shown false (Some rd) uses none h = all_uses uses none

callee_use : (o : Operand) → IsUse o → IsUse (as_callee o)
callee_use (ImplicitUse r) is = (refl, is.1)
callee_use o is = is

shown_all : (held : Bool) (us : List Operand) → AllUses us → AllUses (shown held us)
shown_all true [] all = tt
shown_all true (o ∷ os) all = (callee_use o all.0, all.1)
shown_all false us all = all

same_uses : (held : Bool) (us vs : List Operand) → IsBegun held us → IsBegun held vs → map as_slot (shown held us) ≡ map as_slot (shown held vs) →
    map as_slot us ≡ map as_slot vs
same_uses true (ImplicitUse m ∷ us) (ImplicitUse n ∷ vs) h k e =
    let first : m ≡ n = cc in
    let rest : map as_slot us ≡ map as_slot vs = cc in
    cc
same_uses true (ImplicitUse m ∷ us) vs h k e = absurd k
same_uses true us vs h k e = absurd h
same_uses false us vs h k e = e

regrouped : (a b c d e : List ℕ) → (((a ++ b) ++ c) ++ d) ++ e ≡ a ++ (b ++ (c ++ (d ++ e)))
regrouped a b c d e = simp append_assoc

text_before : (target : Option ℕ) (op : Op) (uses : List Operand) (tail : List ℕ) → NoDefinitions uses →
    IsBegun (has_implicit_callee op) (with_target target uses) →
    instruction_text (record { op = op; operands = with_target target uses; volatile = false }) ++ tail ≡ before target op (shown (has_implicit_callee op) uses) tail
text_before None op uses tail none h =
    (λ i. ((definitions_text (no_definitions uses none i) ++ mnemonic_of op) ++ uses_text (uses_shown (has_implicit_callee op) None uses none h i)) ++ tail)
    ∙ append_assoc (mnemonic_of op) (uses_text (shown (has_implicit_callee op) uses)) tail
text_before (Some rd) op uses tail none h =
    (λ i. ((definitions_text (Def rd ∷ no_definitions uses none i) ++ mnemonic_of op)
    ++ uses_text (uses_shown (has_implicit_callee op) (Some rd) uses none h i)) ++ tail)
    ∙ regrouped (register_text rd) (codes " = ") (mnemonic_of op) (uses_text (shown (has_implicit_callee op) uses)) tail

-- ---- one instruction

uses_of : (os : List Operand) → NoDefinitions os → All HasNumbers os → AllUses os
uses_of [] none all = tt
uses_of (o ∷ os) none all = ((none.0, All-head HasNumbers o os all), uses_of os none.1 (All-tail HasNumbers o os all))

abbrev HasTarget : Option ℕ → Type 0
HasTarget None = Unit {0}
HasTarget (Some rd) = IsNumber rd

target_of : (target : Option ℕ) (uses : List Operand) → All HasNumbers (with_target target uses) → HasTarget target
target_of None uses all = tt
target_of (Some rd) uses all = All-head HasNumbers (Def rd) uses all

numbers_of : (target : Option ℕ) (uses : List Operand) → All HasNumbers (with_target target uses) → All HasNumbers uses
numbers_of None uses all = all
numbers_of (Some rd) uses all = All-tail HasNumbers (Def rd) uses all

stops_uses : (uses : List Operand) (tail : List ℕ) → Stops is_letter tail → Stops is_letter (uses_text uses ++ tail)
stops_uses [] tail stop = stop
stops_uses (o ∷ os) tail stop = refl

after_one : (a b : Op) (us vs : List Operand) (r s : List ℕ) → AllUses us → AllUses vs → IsTail r → IsTail s → Stops is_letter r → Stops is_letter s →
    after_target a us r ≡ after_target b vs s → (a ≡ b) × (map as_slot us ≡ map as_slot vs) × (r ≡ s)
after_one a b us vs r s all others tail tails stop stops e =
    let op = opcode_one a b (uses_text us ++ r) (uses_text vs ++ s) (stops_uses us r stop) (stops_uses vs s stops) e in
    let rest = uses_one us vs r s all others tail tails op.1 in
    (op.0, rest.0, rest.1)

-- an opcode begins with a letter, a register doesn't
abbrev head_is_letter : List ℕ → Bool
head_is_letter [] = false
head_is_letter (b ∷ bs) = is_letter b

opcode_head : (op : Op) (r : List ℕ) → head_is_letter (mnemonic_of op ++ r) ≡ true
opcode_head (Registers Add) r = refl
opcode_head (Immediate Addi) r = refl
opcode_head (Branch Beq) r = refl
opcode_head (Load Lb) r = refl
opcode_head (Store Sb) r = refl
opcode_head op r = refl

register_head : (p : Bool) (n : ℕ) (r : List ℕ) → nat_lt n 32 ≡ p → head_is_letter (register_text n ++ r) ≡ false
register_head true n r is = rw is refl
register_head false n r is = rw is refl

head_apart : (op : Op) (r : List ℕ) (n : ℕ) (s : List ℕ) → mnemonic_of op ++ r ≡ register_text n ++ s → ⊥
head_apart op r n s e =
    let both : true ≡ false = sym (opcode_head op r) ∙ (ap head_is_letter e ∙ register_head (nat_lt n 32) n s refl) in
    cc

before_one : (x y : Option ℕ) (a b : Op) (us vs : List Operand) (r s : List ℕ) → HasTarget x → HasTarget y → AllUses us → AllUses vs → IsTail r → IsTail s →
    Stops is_letter r → Stops is_letter s →
    before x a us r ≡ before y b vs s → (x ≡ y) × (a ≡ b) × (map as_slot us ≡ map as_slot vs) × (r ≡ s)
before_one None None a b us vs r s small other all others tail tails stop stops e = let found = after_one a b us vs r s all others tail tails stop stops e in
    (refl, found.0, found.1, found.2)
before_one None (Some n) a b us vs r s small other all others tail tails stop stops e = absurd
    (head_apart a (uses_text us ++ r) n (codes " = " ++ after_target b vs s) e)
before_one (Some m) None a b us vs r s small other all others tail tails stop stops e = absurd
    (head_apart b (uses_text vs ++ s) m (codes " = " ++ after_target a us r) (sym e))
before_one (Some m) (Some n) a b us vs r s small other all others tail tails stop stops e =
    let target = register_one m n (codes " = " ++ after_target a us r) (codes " = " ++ after_target b vs s) small other refl refl e in
    let found = after_one a b us vs r s all others tail tails stop stops (front_one (codes " = ") (after_target a us r) (after_target b vs s) target.1) in
    (ap (λ (n : ℕ). Some n) target.0, found.0, found.1, found.2)

-- what follows an instruction
pub record EndsInstruction (text : List ℕ) : Type 0 where
  pub tail : IsTail text
  pub letter : Stops is_letter text

-- the operands of two instructions of one opcode that are the same with slots for objects
same_operands : (objects : ℕ → Bool) (i j : Instruction) → IsPrintableInstruction objects i → IsPrintableInstruction objects j → OneKind i.operands →
    OneKind j.operands →
    i.op ≡ j.op → map as_slot i.operands ≡ map as_slot j.operands → i.operands ≡ j.operands
same_operands objects i j is others kind kinds op e =
    let form : has_form i.op j.operands ≡ true = ap (λ (o : Op). has_form o j.operands) op ∙ others.form in
    let told : IsTold objects i.op j.operands = λ h. others.stack (ap (λ (o : Op). has_form o (map as_slot j.operands)) (sym op) ∙ h) in
    operands_one objects i.op i.operands j.operands kind kinds is.form form is.stack told e

slots_of : (target : Option ℕ) (uses : List Operand) → map as_slot (with_target target uses) ≡ with_target target (map as_slot uses)
slots_of None uses = refl
slots_of (Some rd) uses = refl

pub instruction_one : (objects : ℕ → Bool) (i j : Instruction) (r s : List ℕ) → IsPrintableInstruction objects i → IsPrintableInstruction objects j →
    EndsInstruction r → EndsInstruction s →
    instruction_text i ++ r ≡ instruction_text j ++ s → (i.op ≡ j.op) × (i.operands ≡ j.operands) × (r ≡ s)
instruction_one objects i j r s is others end ends e =
    let p = parts_of i.op i.operands is.form in
    let q = parts_of j.op j.operands others.form in
    let all : All HasNumbers (with_target p.target p.uses) = subst (All HasNumbers) p.parts is.numbers in
    let more : All HasNumbers (with_target q.target q.uses) = subst (All HasNumbers) q.parts others.numbers in
    let a = has_implicit_callee i.op in
    let b = has_implicit_callee j.op in
    let h : IsBegun a (with_target p.target p.uses) = subst (IsBegun a) p.parts (begun i.op i.operands is.form) in
    let k : IsBegun b (with_target q.target q.uses) = subst (IsBegun b) q.parts (begun j.op j.operands others.form) in
    let left : instruction_text i ++ r ≡ before p.target i.op (shown a p.uses) r =
    ap (λ (os : List Operand). instruction_text (record i { operands = os }) ++ r) p.parts ∙ text_before p.target i.op p.uses r p.none h in
    let right : instruction_text j ++ s ≡ before q.target j.op (shown b q.uses) s =
    ap (λ (os : List Operand). instruction_text (record j { operands = os }) ++ s) q.parts ∙ text_before q.target j.op q.uses s q.none k in
    let found = before_one p.target q.target i.op j.op (shown a p.uses) (shown b q.uses) r s (target_of p.target p.uses all)
    (target_of q.target q.uses more) (shown_all a p.uses (uses_of p.uses p.none (numbers_of p.target p.uses all)))
    (shown_all b q.uses (uses_of q.uses q.none (numbers_of q.target q.uses more))) end.tail ends.tail end.letter ends.letter (sym left ∙ (e ∙ right)) in
    let same : map as_slot p.uses ≡ map as_slot q.uses =
    same_uses a p.uses q.uses (uses_begun a p.target p.uses h)
    (subst (λ (op : Op). IsBegun (has_implicit_callee op) q.uses) (sym found.1) (uses_begun b q.target q.uses k))
    (found.2 ∙ ap (λ (op : Op). map as_slot (shown (has_implicit_callee op) q.uses)) (sym found.1)) in
    let slots : map as_slot i.operands ≡ map as_slot j.operands =
    ap (map as_slot) p.parts ∙ (slots_of p.target p.uses ∙ (ap (λ (t : Option ℕ). with_target t (map as_slot p.uses)) found.0 ∙
    (ap (λ (us : List Operand). with_target q.target us) same ∙ (sym (slots_of q.target q.uses) ∙ sym (ap (map as_slot) q.parts))))) in
    (found.1, same_operands objects i j is others p.kind q.kind found.1 slots, found.3)

-- an instruction doesn't begin with a `D`
abbrev begins_with_d : List ℕ → Bool
begins_with_d [] = false
begins_with_d (b ∷ bs) = nat_eq b 68

opcode_begins : (op : Op) (r : List ℕ) → begins_with_d (mnemonic_of op ++ r) ≡ false
opcode_begins (Registers Add) r = refl
opcode_begins (Immediate Addi) r = refl
opcode_begins (Branch Beq) r = refl
opcode_begins (Load Lb) r = refl
opcode_begins (Store Sb) r = refl
opcode_begins op r = refl

register_begins : (p : Bool) (n : ℕ) (r : List ℕ) → nat_lt n 32 ≡ p → begins_with_d (register_text n ++ r) ≡ false
register_begins true n r is = rw is refl
register_begins false n r is = rw is refl

before_begins : (target : Option ℕ) (op : Op) (uses : List Operand) (tail : List ℕ) → begins_with_d (before target op uses tail) ≡ false
before_begins None op uses tail = opcode_begins op (uses_text uses ++ tail)
before_begins (Some rd) op uses tail = register_begins (nat_lt rd 32) rd (codes " = " ++ after_target op uses tail) refl

pub instruction_begins : (objects : ℕ → Bool) (i : Instruction) (r s : List ℕ) → IsPrintableInstruction objects i → instruction_text i ++ r ≡ 68 ∷ s → ⊥
instruction_begins objects i r s is e =
    let p = parts_of i.op i.operands is.form in
    let a = has_implicit_callee i.op in
    let text : instruction_text i ++ r ≡ before p.target i.op (shown a p.uses) r =
    ap (λ (os : List Operand). instruction_text (record i { operands = os }) ++ r) p.parts
    ∙ text_before p.target i.op p.uses r p.none (subst (IsBegun a) p.parts (begun i.op i.operands is.form)) in
    let both : false ≡ true = sym (before_begins p.target i.op (shown a p.uses) r) ∙ (ap begins_with_d (sym text) ∙ ap begins_with_d e) in
    cc
