-- Code that sets a register names it, or the register is physical; and what calls and returns read by implicit operands is physical.
use Rattle.std.proofs.Common.{◌≡◌, ◌⊎◌, inl, inr, ℕ, zero, suc, ◌<◌, List, [], ◌∷◌, Contains, None, Bool, true, false, ◌&&◌, ◌||◌}
use Rattle.std.proofs.Common.{nat_lt, nat_le, refl, subst, arith}
use Rattle.std.specs.List.{list_all}
use Rattle.std.specs.Prelude.{IsTrue}
use Rattle.std.proofs.lemmas.Bool.{and_parts, ltb-true, leb-true}
use Rattle.rv64_instr.specs.declared.op.Op.{Op}
use Rattle.rv64_instr.specs.declared.op.Op.TheVariants.{Registers, Immediate, Lui, Branch, Load, Store, Copy}
use Rattle.rv64_instr.specs.declared.op.Op.TheVariants.{PseudoBr, PseudoCall, PseudoRet, PseudoCallIndirect}
use Rattle.rv64_instr.specs.declared.op.Op.TheVariants.{PseudoTail, PseudoTailIndirect, NoReturnCall, NoReturnCallIndirect}
use Rattle.rv64_instr.specs.declared.op.ImmediateOp.{ImmediateOp}
use Rattle.rv64_instr.specs.declared.op.ImmediateOp.TheVariants.{Addi}
use Rattle.rv64_instr.specs.declared.operand.Operand.{Operand}
use Rattle.rv64_instr.specs.declared.operand.Operand.TheVariants.{Def, Use, ImplicitDef, ImplicitUse, Imm, Slot, Object, Block, Symbol, Mask}
use Rattle.rv64_instr.specs.declared.place.Place.TheVariants.{Register}
use Rattle.rv64_instr.specs.Arithmetic.{word}
use Rattle.rv64_instr.specs.DefsAndUses.{caller_saved, sets}
use Rattle.rv64_instr.specs.Form.{has_form, is_clobbered, is_argument, is_last_argument, is_call_register, is_result, is_held_tail_use, is_held_tail_register}
use Rattle.rv64_instr.specs.Instruction.{Instruction}
use Rattle.rv64_instr.specs.LocationEffects.{has_implicit_uses, defines_of}
use Rattle.rv64_instr.specs.Row.{Row, Calls, Returns, row_by, row_of, immediate_row, object_row, move_row}
use Rattle.rv64_instr.proofs.Tails.{IsTailRegister, held_tail_use, tail_callee, callee_low, held_callee, last_arguments, held_tail_uses}
use Rattle.mir_func.specs.declared.item.ItemKind.TheVariants.{Code}
use Rattle.scan_intervals.proofs.sem_mir.Implicit.{implicit}
use Rattle.scan_intervals.proofs.sem_mir.Parts.{defines_row}
use Rattle.scan_intervals.specs.pass_trait.Causes.{names}
use Rattle.spill_select.proofs.spill_simulation.Explicit.{explicit}
use Rattle.spill_select.specs.spill_simulation.MaySpill.{implicits_in}
use Rattle.spill_select.proofs.spill_simulation.Near.{implicit_sets, implicit_reads, reads_implicit}
use Rattle.scan_allocation.proofs.AllocationOrder.{all_by}
use Rattle.scan_allocation.proofs.Explicit.{def_named}

-- the registers that a call sets are physical
pub saved_small : (q : ℕ) → Contains caller_saved q → q < 32
saved_small q c = ltb-true q 32 (all_by (λ r. nat_lt r 32) caller_saved q refl c)

by_implicit : (code : Instruction) (s : ℕ) (z : Bool) → has_implicit_uses (row_of code) ≡ z → IsTrue (has_form code.op code.operands) →
    Contains (sets (row_of code)) s → (names s (Code code None) ≡ true) ⊎ (s < 32)
by_implicit code s true i form c = inr (saved_small s (implicit_sets (row_of code) i s c))
by_implicit code s false i form c =
    let is = (explicit code form).sets_defs i in
    inl (def_named (has_implicit_uses (row_of code)) code.operands s (subst (λ (rs : List ℕ). Contains rs s) is c))

-- code that sets a virtual register names it
pub set_is_named : (code : Instruction) (s : ℕ) → IsTrue (has_form code.op code.operands) → defines_of (row_of code) (Register s) ≡ true →
    (names s (Code code None) ≡ true) ⊎ (s < 32)
set_is_named code s form e = by_implicit code s (has_implicit_uses (row_of code)) refl form (defines_row (row_of code) (Register s) e)

-- ---- implicit operands

or_cases : (x y : Bool) → (x || y) ≡ true → (x ≡ true) ⊎ (y ≡ true)
or_cases true y e = inl refl
or_cases false y e = inr e

pub clobbered_small : (r : ℕ) → is_clobbered r ≡ true → r < 32
clobbered_small r e =
    let a : Bool = nat_le r 2 in
    let b : Bool = nat_le 5 r && nat_le r 7 in
    let c : Bool = nat_le 10 r && nat_le r 17 in
    let d : Bool = nat_le 28 r && nat_le r 31 in
    elim (or_cases ((a || b) || c) d e) as (λ _. r < 32) [
      | inl abc ↦ elim (or_cases (a || b) c abc) as (λ _. r < 32) [
        | inl ab ↦ elim (or_cases a b ab) as (λ _. r < 32) [
          | inl t ↦ (let le = leb-true r 2 t in omega (arith, le))
          | inr t ↦ (let le = leb-true r 7 (and_parts (nat_le 5 r) (nat_le r 7) t).1 in omega (arith, le))
        ]
        | inr t ↦ (let le = leb-true r 17 (and_parts (nat_le 10 r) (nat_le r 17) t).1 in omega (arith, le))
      ]
      | inr t ↦ (let le = leb-true r 31 (and_parts (nat_le 28 r) (nat_le r 31) t).1 in omega (arith, le))
    ]

-- an implicit operand that passes the test is of a physical register
record IsSmall (test : Operand → Bool) : Type 0 where
  of_use : (r : ℕ) → test (ImplicitUse r) ≡ true → r < 32
  of_def : (r : ℕ) → test (ImplicitDef r) ≡ true → r < 32

arguments_small : IsSmall is_argument
arguments_small = record { of_use = λ r e. ltb-true r 32 e; of_def = λ r e. clobbered_small r e }

results_small : IsSmall is_result
results_small = record {
  of_use = λ r e. (let le = leb-true r 17 (and_parts (nat_le 10 r) (nat_le r 17) e).1 in omega (arith, le));
  of_def = λ r e. cc;
}

use_small : (r : ℕ) → (r ≡ 2) ⊎ ((r ≡ 6) ⊎ IsTailRegister r) → r < 32
use_small r (inl two) = omega (arith, two)
use_small r (inr is) = callee_low r is

tails_small : IsSmall is_held_tail_use
tails_small = record { of_use = λ r e. use_small r (held_tail_use r e); of_def = λ r e. cc }

module _ (test : Operand → Bool) (small : IsSmall test) where
  all_small : (os : List Operand) → list_all test os ≡ true → (q : ℕ) → Contains (implicits_in os) q → q < 32
  all_small [] e q (k, lt, at) = absurd (omega (arith, lt))
  all_small (ImplicitDef r ∷ os) e q (zero, lt, at) =
      let h = small.of_def r (and_parts (test (ImplicitDef r)) (list_all test os) e).0 in omega (arith, at, h)
  all_small (ImplicitDef r ∷ os) e q (suc k, lt, at) =
      all_small os (and_parts (test (ImplicitDef r)) (list_all test os) e).1 q (k, omega (arith, lt), at)
  all_small (ImplicitUse r ∷ os) e q (zero, lt, at) =
      let h = small.of_use r (and_parts (test (ImplicitUse r)) (list_all test os) e).0 in omega (arith, at, h)
  all_small (ImplicitUse r ∷ os) e q (suc k, lt, at) =
      all_small os (and_parts (test (ImplicitUse r)) (list_all test os) e).1 q (k, omega (arith, lt), at)
  all_small (x ∷ os) e q c = all_small os (and_parts (test x) (list_all test os) e).1 q c

pub immediate_plain : (op : ImmediateOp) (rd a n : ℕ) → has_implicit_uses (immediate_row op rd a n) ≡ false
immediate_plain Addi rd zero n = refl
immediate_plain Addi rd (suc a) zero = refl
immediate_plain op rd a n = refl

pub object_plain : (op : ImmediateOp) (rd n o : ℕ) → has_implicit_uses (object_row op rd n o) ≡ false
object_plain Addi rd n o = refl
object_plain _ rd n o = refl

pub move_plain : (rd a : ℕ) → has_implicit_uses (move_row rd a) ≡ false
move_plain rd zero = refl
move_plain rd (suc a) = refl

pub not_both : {b : Bool} → b ≡ false → b ≡ true → ⊥
not_both e f = cc

-- so is the register by which a callee is named, and with it the others
with_callee : (r : ℕ) (os : List Operand) → r < 32 → ((q : ℕ) → Contains (implicits_in os) q → q < 32) → (q : ℕ) →
    Contains (r ∷ implicits_in os) q → q < 32
with_callee r os small others q (zero, lt, at) = omega (arith, at, small)
with_callee r os small others q (suc k, lt, at) = others q (k, omega (arith, lt), at)

by_op : (op : Op) (os : List Operand) → has_form op os ≡ true → has_implicit_uses (row_by op os) ≡ true → (q : ℕ) → Contains (implicits_in os) q → q < 32
by_op (Registers op) (Def rd ∷ Use a ∷ Use b ∷ rest) e i q c = cc
by_op (Immediate op) (Def rd ∷ Use a ∷ Imm n ∷ rest) e i q c = absurd (not_both (immediate_plain op rd a (word n)) i)
by_op (Immediate op) (Def rd ∷ Object n ∷ Imm z ∷ rest) e i q c = absurd (not_both (object_plain op rd n (word z)) i)
by_op Lui (Def rd ∷ Imm n ∷ rest) e i q c = cc
by_op (Branch op) (Use a ∷ Use b ∷ Block n ∷ rest) e i q c = cc
by_op (Load op) (Def rd ∷ Use a ∷ Imm n ∷ rest) e i q c = cc
by_op (Load op) (Def rd ∷ Slot n ∷ Imm z ∷ rest) e i q c = cc
by_op (Load op) (Def rd ∷ Object n ∷ Imm z ∷ rest) e i q c = cc
by_op (Store op) (Use a ∷ Use b ∷ Imm n ∷ rest) e i q c = cc
by_op (Store op) (Use a ∷ Slot n ∷ Imm z ∷ rest) e i q c = cc
by_op (Store op) (Use a ∷ Object n ∷ Imm z ∷ rest) e i q c = cc
by_op Copy (Def rd ∷ Use a ∷ rest) e i q c = absurd (not_both (move_plain rd a) i)
by_op PseudoBr (Block n ∷ rest) e i q c = cc
by_op PseudoCall (Symbol name ∷ Mask ∷ rest) e i q c = all_small is_argument arguments_small rest e q c
by_op PseudoRet os e i q c = all_small is_result results_small os e q c
by_op PseudoCallIndirect (Use r ∷ Mask ∷ rest) e i q c = all_small is_argument arguments_small rest e q c
by_op PseudoTail (Symbol name ∷ rest) e i q c = all_small is_held_tail_use tails_small rest (held_tail_uses rest e) q c
by_op PseudoTailIndirect (ImplicitUse r ∷ rest) e i q c =
    let w = and_parts (is_held_tail_register r) (list_all is_held_tail_use rest) e in
    with_callee r rest (callee_low r (tail_callee r w.0)) (λ p k. all_small is_held_tail_use tails_small rest w.1 p k) q c
by_op NoReturnCall (Symbol name ∷ Mask ∷ rest) e i q c = all_small is_argument arguments_small rest (last_arguments rest e) q c
by_op NoReturnCallIndirect (ImplicitUse r ∷ Mask ∷ rest) e i q c =
    let w = and_parts (is_call_register r) (list_all is_last_argument rest) e in
    with_callee r rest (held_callee r w.0).1 (λ p k. all_small is_argument arguments_small rest (last_arguments rest w.1) p k) q c
by_op _ _ e i q c = cc

-- what implicit operands of a call or a return name is physical
pub implicits_small : (code : Instruction) → IsTrue (has_form code.op code.operands) → has_implicit_uses (row_of code) ≡ true → (q : ℕ) →
    Contains (implicits_in code.operands) q → q < 32
implicits_small code form i q c = by_op code.op code.operands form i q c

implied : (r : Row) (q : ℕ) → Contains (implicit_reads r) q → has_implicit_uses r ≡ true
implied (Calls call) q k = refl
implied (Returns ending) q k = refl
implied _ q (k, lt, e) = absurd (omega (arith, lt))

-- so is what it reads by them
pub implicit_small : (code : Instruction) → IsTrue (has_form code.op code.operands) → (q : ℕ) → Contains (implicit_reads (row_of code)) q → q < 32
implicit_small code form q c =
    implicits_small code form (implied (row_of code) q c) q (reads_implicit (row_of code) code.operands q (implicit code) c)
