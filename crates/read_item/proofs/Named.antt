-- The opcode of code of a name: one that is read is the first of its own name, since no two have one name.
use Rattle.std.proofs.Common.{◌≡◌, ℕ, Bool, true, false, List, [], ◌∷◌, Option, Some, None, refl, sym, ap, ◌∙◌, ◌&&◌, ◌||◌, cond, subst, inl, inr}
use Rattle.std.specs.Prelude.{IfSome, codes}
use Rattle.std.specs.List.{find, list_all}
use Rattle.std.specs.Str.{bytes_eq}
use Rattle.std.proofs.lemmas.Bool.{cases_Bool, and_parts}
use Rattle.std.proofs.lemmas.Slice.Eq.{bytes_eq-Decides}
use Rattle.rv64_instr.specs.declared.op.Op.{Op}
use Rattle.rv64_instr.specs.declared.op.Op.TheVariants.{Registers, Immediate, Branch, Load, Store, PseudoCall, PseudoCallIndirect}
use Rattle.rv64_instr.specs.declared.op.Op.TheVariants.{PseudoTail, PseudoTailIndirect, NoReturnCall, NoReturnCallIndirect}
use Rattle.rv64_instr.specs.declared.op.RegisterOp.TheVariants.{Add, Sub, Sll, Slt, Sltu, Xor, Srl, Sra, Or, And, Addw, Subw, Sllw, Srlw, Sraw}
use Rattle.rv64_instr.specs.declared.op.ImmediateOp.TheVariants.{Addi, Slti, Sltiu, Xori, Ori, Andi, Slli, Srli, Srai, Addiw, Slliw, Srliw, Sraiw}
use Rattle.rv64_instr.specs.declared.op.BranchOp.TheVariants.{Beq, Bne, Blt, Bge, Bltu, Bgeu}
use Rattle.rv64_instr.specs.declared.op.LoadOp.TheVariants.{Lb, Lh, Lw, Ld, Lbu, Lhu, Lwu}
use Rattle.rv64_instr.specs.declared.op.StoreOp.TheVariants.{Sb, Sh, Sw, Sd}
use Rattle.rv64_instr.specs.Mnemonic.{mnemonic_of}
use Rattle.read_item.specs.declared.opcode.Opcode.{Opcode}
use Rattle.read_item.specs.declared.opcode.Opcode.TheVariants.{Code, Address, Debug, Label, Pseudo, CallFrame}
use Rattle.read_item.specs.declared.opcode.DebugOpcode.TheVariants.{Value, InstrRef, ValueList, Phi}
use Rattle.read_item.specs.Opcode.{ops, callee_ops, ops_of, op_named, is_read, if_read, returning, opcode_or, opcode_of, other_opcode_of}
use Rattle.read_item.specs.Opcode.{debug_opcode_of}

own : (linked : Bool) (op : Op) → op_named linked (mnemonic_of op) ≡ if_read linked (Some op)
unfolding op_named ops callee_ops
own linked (Registers Add) = refl
own linked (Registers Sub) = refl
own linked (Registers Sll) = refl
own linked (Registers Slt) = refl
own linked (Registers Sltu) = refl
own linked (Registers Xor) = refl
own linked (Registers Srl) = refl
own linked (Registers Sra) = refl
own linked (Registers Or) = refl
own linked (Registers And) = refl
own linked (Registers Addw) = refl
own linked (Registers Subw) = refl
own linked (Registers Sllw) = refl
own linked (Registers Srlw) = refl
own linked (Registers Sraw) = refl
own linked (Immediate Addi) = refl
own linked (Immediate Slti) = refl
own linked (Immediate Sltiu) = refl
own linked (Immediate Xori) = refl
own linked (Immediate Ori) = refl
own linked (Immediate Andi) = refl
own linked (Immediate Slli) = refl
own linked (Immediate Srli) = refl
own linked (Immediate Srai) = refl
own linked (Immediate Addiw) = refl
own linked (Immediate Slliw) = refl
own linked (Immediate Srliw) = refl
own linked (Immediate Sraiw) = refl
own linked (Branch Beq) = refl
own linked (Branch Bne) = refl
own linked (Branch Blt) = refl
own linked (Branch Bge) = refl
own linked (Branch Bltu) = refl
own linked (Branch Bgeu) = refl
own linked (Load Lb) = refl
own linked (Load Lh) = refl
own linked (Load Lw) = refl
own linked (Load Ld) = refl
own linked (Load Lbu) = refl
own linked (Load Lhu) = refl
own linked (Load Lwu) = refl
own linked (Store Sb) = refl
own linked (Store Sh) = refl
own linked (Store Sw) = refl
own linked (Store Sd) = refl
own true PseudoCallIndirect = refl
own true PseudoTail = refl
own true PseudoTailIndirect = refl
own true NoReturnCall = refl
own true NoReturnCallIndirect = refl
own false PseudoCallIndirect = refl
own false PseudoTail = refl
own false PseudoTailIndirect = refl
own false NoReturnCall = refl
own false NoReturnCallIndirect = refl
own linked op = refl

-- what is found passes the test
passes : (p : Op → Bool) (xs : List Op) (op : Op) → find p xs ≡ Some op → p op ≡ true
passes p [] op e = cc
passes p (x ∷ xs) op e =
    elim (cases_Bool (p x)) [
      | inl t ↦
          let same : Some x ≡ Some op = sym (ap (λ (b : Bool). cond b (Some x) (find p xs)) t) ∙ e in
          let is : x ≡ op = cc in
          ap p (sym is) ∙ t
      | inr f ↦ passes p xs op (sym (ap (λ (b : Bool). cond b (Some x) (find p xs)) f) ∙ e)
    ]

-- the opcode that is found by a name has it
has_name : (linked : Bool) (name : List ℕ) (op : Op) → op_named linked name ≡ Some op → name ≡ mnemonic_of op
unfolding op_named
has_name linked name op e =
    let d = bytes_eq-Decides (mnemonic_of op) name in
    sym (d.0 (passes (λ x. bytes_eq (mnemonic_of x) name) (ops_of linked) op e))

none_named : (linked : Bool) (name : List ℕ) (found : Option Op) → op_named linked name ≡ found → ((op : Op) → name ≡ mnemonic_of op → None ≡ Some op) →
    None ≡ found
none_named linked name None e only = refl
none_named linked name (Some op) e only = only op (has_name linked name op e)

-- the opcode that has a name and has it alone is the one that is found
pub named_op : (linked : Bool) (name : List ℕ) (o : Option Op) → IfSome o (λ op. name ≡ mnemonic_of op) → ((op : Op) → name ≡ mnemonic_of op → o ≡ Some op)
    → if_read linked o ≡ op_named linked name
named_op linked name (Some op) has only = sym (ap (op_named linked) has ∙ own linked op)
named_op linked name None has only = none_named linked name (op_named linked name) refl only

-- ---- what is read

all_pass : (p q : Op → Bool) (xs : List Op) (op : Op) → list_all q xs ≡ true → find p xs ≡ Some op → q op ≡ true
all_pass p q [] op all e = cc
all_pass p q (x ∷ xs) op all e =
    let parts = and_parts (q x) (list_all q xs) all in
    elim (cases_Bool (p x)) [
      | inl t ↦
          let same : Some x ≡ Some op = sym (ap (λ (b : Bool). cond b (Some x) (find p xs)) t) ∙ e in
          let is : x ≡ op = cc in
          ap q (sym is) ∙ parts.0
      | inr f ↦ all_pass p q xs op parts.1 (sym (ap (λ (b : Bool). cond b (Some x) (find p xs)) f) ∙ e)
    ]

all_read : (linked : Bool) → list_all (is_read linked) (ops_of linked) ≡ true
unfolding ops callee_ops
all_read true = refl
all_read false = refl

found_read : (linked : Bool) (name : List ℕ) (op : Op) → op_named linked name ≡ Some op → is_read linked op ≡ true
unfolding op_named
found_read linked name op e = all_pass (λ x. bytes_eq (mnemonic_of x) name) (is_read linked) (ops_of linked) op (all_read linked) e

-- no debug or ignored opcode is one of code
abbrev IsNoCode : Option Opcode → Type 0
IsNoCode (Some (Code op)) = ⊥
IsNoCode _ = Unit {0}

no_code_by : (a b c d e f g : Bool) →
    IsNoCode (cond a (Some (Debug Value)) (cond b (Some (Debug InstrRef)) (cond c (Some (Debug ValueList)) (cond d (Some (Debug Phi))
    (cond e (Some Label) (cond f (Some Pseudo) (cond g (Some CallFrame) None)))))))
no_code_by true b c d e f g = tt
no_code_by false true c d e f g = tt
no_code_by false false true d e f g = tt
no_code_by false false false true e f g = tt
no_code_by false false false false true f g = tt
no_code_by false false false false false true g = tt
no_code_by false false false false false false true = tt
no_code_by false false false false false false false = tt

no_address_by : (a b c d e f g : Bool) →
    cond a (Some (Debug Value)) (cond b (Some (Debug InstrRef)) (cond c (Some (Debug ValueList)) (cond d (Some (Debug Phi))
    (cond e (Some Label) (cond f (Some Pseudo) (cond g (Some CallFrame) None)))))) ≡ Some Address → ⊥
no_address_by true b c d e f g is = cc
no_address_by false true c d e f g is = cc
no_address_by false false true d e f g is = cc
no_address_by false false false true e f g is = cc
no_address_by false false false false true f g is = cc
no_address_by false false false false false true g is = cc
no_address_by false false false false false false true is = cc
no_address_by false false false false false false false is = cc

debug_no_code : (name : List ℕ) → IsNoCode (debug_opcode_of name)
unfolding debug_opcode_of
debug_no_code name =
    no_code_by (bytes_eq name (codes "DBG_VALUE")) (bytes_eq name (codes "DBG_INSTR_REF")) (bytes_eq name (codes "DBG_VALUE_LIST"))
    (bytes_eq name (codes "DBG_PHI")) (bytes_eq name (codes "DBG_LABEL")) (bytes_eq name (codes "KILL") || bytes_eq name (codes "IMPLICIT_DEF"))
    (bytes_eq name (codes "ADJCALLSTACKDOWN") || bytes_eq name (codes "ADJCALLSTACKUP"))

other_no_code : (linked : Bool) (name : List ℕ) → IsNoCode (other_opcode_of linked name)
other_no_code linked name = by (linked && bytes_eq name (codes "PseudoMovAddr")) where
  by : (b : Bool) → IsNoCode (cond b (Some Address) (debug_opcode_of name))
  by true = tt
  by false = debug_no_code name

code_read : (linked : Bool) (found : Option Op) (other : Option Opcode) (op : Op) → IsNoCode other →
    ((x : Op) → found ≡ Some x → is_read linked x ≡ true) → opcode_or found other ≡ Some (Code op) → is_read linked op ≡ true
code_read linked None other op none read e = absurd (subst IsNoCode e none)
code_read linked (Some x) other op none read e = let same : x ≡ op = cc in read op (ap (λ (y : Op). Some y) same)

-- a call without return is read where a call is one of the linked language
still_read : (linked no_return : Bool) (op : Op) → is_read linked op ≡ true → is_read linked (returning linked no_return op) ≡ true
still_read true true PseudoCall read = refl
still_read true true PseudoCallIndirect read = refl
still_read true true op read = read
still_read true false op read = read
still_read false no_return op read = read

-- the opcode of a line of code is read
pub code_is_read : (linked no_return : Bool) (name : List ℕ) (op : Op) → opcode_of linked name ≡ Some (Code op) →
    is_read linked (returning linked no_return op) ≡ true
unfolding opcode_of
code_is_read linked no_return name op e =
    still_read linked no_return op (code_read linked (op_named linked name) (other_opcode_of linked name) op (other_no_code linked name)
    (λ x is. found_read linked name x is) e)

-- addresses as one opcode are of the linked language
debug_no_address : (name : List ℕ) → debug_opcode_of name ≡ Some Address → ⊥
unfolding debug_opcode_of
debug_no_address name e =
    no_address_by (bytes_eq name (codes "DBG_VALUE")) (bytes_eq name (codes "DBG_INSTR_REF")) (bytes_eq name (codes "DBG_VALUE_LIST"))
    (bytes_eq name (codes "DBG_PHI")) (bytes_eq name (codes "DBG_LABEL")) (bytes_eq name (codes "KILL") || bytes_eq name (codes "IMPLICIT_DEF"))
    (bytes_eq name (codes "ADJCALLSTACKDOWN") || bytes_eq name (codes "ADJCALLSTACKUP")) e

other_address : (linked : Bool) (name : List ℕ) → other_opcode_of linked name ≡ Some Address → linked ≡ true
other_address true name e = refl
other_address false name e = absurd (debug_no_address name e)

address_by : (linked : Bool) (name : List ℕ) (found : Option Op) → opcode_or found (other_opcode_of linked name) ≡ Some Address → linked ≡ true
address_by linked name (Some op) e = absurd cc
address_by linked name None e = other_address linked name e

pub address_is_linked : (linked : Bool) (name : List ℕ) → opcode_of linked name ≡ Some Address → linked ≡ true
unfolding opcode_of
address_is_linked linked name e = address_by linked name (op_named linked name) e
