-- What the operands of code define, by the form of its opcode.
use Rattle.std.proofs.Common.{◌≡◌, ◌⊎◌, inl, inr, ℕ, zero, suc, ◌+◌, ◌<◌, ◌≤◌, List, [], ◌∷◌, ◌++◌, All, Contains, Option, Some, None, Bool, true, false}
use Rattle.std.proofs.Common.{◌&&◌, ◌||◌, pos, nat_le, nat_eq, slice_get, refl, sym, ap, ◌∙◌, subst, arith, cond, ne_eqb}
use Rattle.std.specs.List.{list_all, list_any}
use Rattle.std.proofs.lemmas.Bool.{and_parts, cases_eq, eqb-true, leb-true}
use Rattle.std.proofs.lemmas.List.Elements.{All-head, Contains-append_left, Contains-append_right}
use Rattle.rv64_instr.specs.declared.op.Op.{Op}
use Rattle.rv64_instr.specs.declared.op.ImmediateOp.{ImmediateOp}
use Rattle.rv64_instr.specs.declared.op.Op.TheVariants.{Registers, Immediate, Lui, Branch, Load, Store, Copy}
use Rattle.rv64_instr.specs.declared.op.Op.TheVariants.{PseudoBr, PseudoCall, PseudoRet, PseudoCallIndirect}
use Rattle.rv64_instr.specs.declared.op.Op.TheVariants.{PseudoTail, PseudoTailIndirect, NoReturnCall, NoReturnCallIndirect}
use Rattle.rv64_instr.specs.declared.op.ImmediateOp.TheVariants.{Addi}
use Rattle.rv64_instr.specs.declared.operand.Operand.{Operand}
use Rattle.rv64_instr.specs.declared.operand.Operand.TheVariants.{Def, Use, ImplicitDef, ImplicitUse, Imm, Slot, Object, Part, Block, Symbol, Mask, Outgoing}
use Rattle.rv64_instr.specs.declared.operand.Operand.TheVariants.{GlobalRegisters}
use Rattle.rv64_instr.specs.declared.symbol.Half.TheVariants.{Upper, Lower}
use Rattle.rv64_instr.specs.declared.place.Place.{Place}
use Rattle.rv64_instr.specs.declared.place.Place.TheVariants.{Register}
use Rattle.rv64_instr.specs.Instruction.{Instruction}
use Rattle.rv64_instr.specs.Arithmetic.{word}
use Rattle.rv64_instr.specs.Form.{is_within, has_12_bits, is_immediate, moves_slot, is_implicit, is_clobbered}
use Rattle.rv64_instr.specs.Form.{is_argument, is_last_argument, is_call_register, is_result, has_form, is_addi, is_held_tail_use, is_held_tail_register}
use Rattle.rv64_instr.specs.Row.{Row, Calls, row_by, row_of, immediate_row, object_row}
use Rattle.rv64_instr.specs.Row.{move_row, CallSite, implicit_uses, held_tail, held_gone}
use Rattle.rv64_instr.specs.DefsAndUses.{sets, caller_saved}
use Rattle.rv64_instr.specs.LocationEffects.{is_pure, is_call, defines_of}
use Rattle.rv64_instr.proofs.Tails.{last_arguments, held_tail_uses}
use Rattle.mir_func.specs.Sound.{IsNotPointer}
use Rattle.sem_mir.specs.Step.{defined}
use Rattle.sem_mir.proofs.Parts.{row_defines}
use Rattle.pass_edits.specs.sem_agreement.Agreement.{GenDefs, NumbersHeld}

-- ---- operands that define nothing

none_implicit : (os : List Operand) → list_all is_implicit os ≡ true → (o : ℕ) → defined false (slice_get os o) ≡ None
none_implicit [] h o = refl
none_implicit (ImplicitDef r ∷ os) h zero = refl
none_implicit (ImplicitUse r ∷ os) h zero = refl
none_implicit (ImplicitDef r ∷ os) h (suc o) = none_implicit os (and_parts (is_implicit (ImplicitDef r)) (list_all is_implicit os) h).1 o
none_implicit (ImplicitUse r ∷ os) h (suc o) = none_implicit os (and_parts (is_implicit (ImplicitUse r)) (list_all is_implicit os) h).1 o
none_implicit (_ ∷ os) h o = cc

none_result : (os : List Operand) → list_all is_result os ≡ true → (o : ℕ) → defined false (slice_get os o) ≡ None
none_result [] h o = refl
none_result (ImplicitUse r ∷ os) h zero = refl
none_result (ImplicitUse r ∷ os) h (suc o) = none_result os (and_parts (is_result (ImplicitUse r)) (list_all is_result os) h).1 o
none_result (GlobalRegisters ∷ os) h zero = refl
none_result (GlobalRegisters ∷ os) h (suc o) = none_result os h o
none_result (_ ∷ os) h o = cc

none_argument : (os : List Operand) → list_all is_argument os ≡ true → (o : ℕ) → defined false (slice_get os o) ≡ None
none_argument [] h o = refl
none_argument (ImplicitDef r ∷ os) h zero = refl
none_argument (ImplicitUse r ∷ os) h zero = refl
none_argument (Outgoing n ∷ os) h zero = refl
none_argument (GlobalRegisters ∷ os) h zero = refl
none_argument (ImplicitDef r ∷ os) h (suc o) = none_argument os (and_parts (is_argument (ImplicitDef r)) (list_all is_argument os) h).1 o
none_argument (ImplicitUse r ∷ os) h (suc o) = none_argument os (and_parts (is_argument (ImplicitUse r)) (list_all is_argument os) h).1 o
none_argument (Outgoing n ∷ os) h (suc o) = none_argument os (and_parts (is_argument (Outgoing n)) (list_all is_argument os) h).1 o
none_argument (GlobalRegisters ∷ os) h (suc o) = none_argument os h o
none_argument (_ ∷ os) h o = cc

none_tail : (os : List Operand) → list_all is_held_tail_use os ≡ true → (o : ℕ) → defined false (slice_get os o) ≡ None
none_tail [] h o = refl
none_tail (ImplicitUse r ∷ os) h zero = refl
none_tail (ImplicitUse r ∷ os) h (suc o) = none_tail os (and_parts (is_held_tail_use (ImplicitUse r)) (list_all is_held_tail_use os) h).1 o
none_tail (GlobalRegisters ∷ os) h zero = refl
none_tail (GlobalRegisters ∷ os) h (suc o) = none_tail os h o
none_tail (_ ∷ os) h o = cc

abbrev NoneDefined : List Operand → Type 0
NoneDefined os = (o : ℕ) → defined false (slice_get os o) ≡ None

past : (x : Operand) (os : List Operand) → defined false (Some x) ≡ None → NoneDefined os → NoneDefined (x ∷ os)
past x os e h zero = e
past x os e h (suc o) = h o

-- ---- the three kinds of code

-- code that sets the register of its first operand, code that sets none, and calls
pub data Sets (os : List Operand) (r : Row) : Type 0 where
  one : (rd : ℕ) (rest : List Operand) → os ≡ Def rd ∷ rest → NoneDefined rest → is_call r ≡ false → sets r ≡ rd ∷ [] → Sets os r
  no_register : NoneDefined os → is_call r ≡ false → sets r ≡ [] → Sets os r
  call : (site : CallSite) (first : Operand) (rest : List Operand) → defined true (Some first) ≡ None → os ≡ first ∷ Mask ∷ rest →
      list_all is_argument rest ≡ true → r ≡ Calls site → Sets os r

immediate_sets : (op : ImmediateOp) (rd a n : ℕ) → (is_call (immediate_row op rd a n) ≡ false) × (sets (immediate_row op rd a n) ≡ rd ∷ [])
immediate_sets Addi rd zero n = (refl, refl)
immediate_sets Addi rd (suc a) zero = (refl, refl)
immediate_sets Addi rd (suc a) (suc n) = (refl, refl)
immediate_sets _ rd a n = (refl, refl)

move_sets : (rd rs : ℕ) → (is_call (move_row rd rs) ≡ false) × (sets (move_row rd rs) ≡ rd ∷ [])
move_sets rd zero = (refl, refl)
move_sets rd (suc rs) = (refl, refl)

-- a call by the first of these registers
held_tail_sets : (xs : List ℕ) → (is_call (held_tail xs) ≡ false) × (sets (held_tail xs) ≡ [])
held_tail_sets [] = (refl, refl)
held_tail_sets (x ∷ xs) = (refl, refl)

held_gone_sets : (xs : List ℕ) → (is_call (held_gone xs) ≡ false) × (sets (held_gone xs) ≡ [])
held_gone_sets [] = (refl, refl)
held_gone_sets (x ∷ xs) = (refl, refl)

pub sets_by_form : (op : Op) (os : List Operand) → has_form op os ≡ true → Sets os (row_by op os)
sets_by_form (Registers op) (Def rd ∷ Use a ∷ Use b ∷ rest) e =
    one rd (Use a ∷ Use b ∷ rest) refl (past (Use a) (Use b ∷ rest) refl (past (Use b) rest refl (none_implicit rest e))) refl refl
sets_by_form (Immediate op) (Def rd ∷ Use a ∷ Imm i ∷ rest) e =
    let s = immediate_sets op rd a (word i) in
    let h = and_parts (is_immediate op i) (list_all is_implicit rest) e in
    one rd (Use a ∷ Imm i ∷ rest) refl (past (Use a) (Imm i ∷ rest) refl (past (Imm i) rest refl (none_implicit rest h.1))) s.0 s.1
sets_by_form (Immediate op) (Def rd ∷ Object n ∷ Imm i ∷ rest) e = by_op op e where
  by_op : (op : ImmediateOp) → has_form (Immediate op) (Def rd ∷ Object n ∷ Imm i ∷ rest) ≡ true →
      Sets (Def rd ∷ Object n ∷ Imm i ∷ rest) (object_row op rd n (word i))
  by_op Addi e =
      let h = and_parts (is_immediate Addi i) (list_all is_implicit rest) e in
      one rd (Object n ∷ Imm i ∷ rest) refl (past (Object n) (Imm i ∷ rest) refl (past (Imm i) rest refl (none_implicit rest h.1))) refl refl
  by_op _ e = cc
sets_by_form (Immediate op) (Def rd ∷ Use a ∷ Part Lower y ∷ rest) e =
    let h = and_parts (is_addi op) (list_all is_implicit rest) e in
    one rd (Use a ∷ Part Lower y ∷ rest) refl (past (Use a) (Part Lower y ∷ rest) refl (past (Part Lower y) rest refl (none_implicit rest h.1))) refl refl
sets_by_form Lui (Def rd ∷ Imm i ∷ rest) e =
    let h = and_parts (is_within (pos 0) (pos 1048575) i) (list_all is_implicit rest) e in
    one rd (Imm i ∷ rest) refl (past (Imm i) rest refl (none_implicit rest h.1)) refl refl
sets_by_form Lui (Def rd ∷ Part Upper y ∷ rest) e = one rd (Part Upper y ∷ rest) refl (past (Part Upper y) rest refl (none_implicit rest e)) refl refl
sets_by_form (Branch op) (Use a ∷ Use b ∷ Block n ∷ rest) e =
    no_register (past (Use a) (Use b ∷ Block n ∷ rest) refl (past (Use b) (Block n ∷ rest) refl (past (Block n) rest refl (none_implicit rest e)))) refl refl
sets_by_form (Load op) (Def rd ∷ Use a ∷ Imm i ∷ rest) e =
    let h = and_parts (has_12_bits i) (list_all is_implicit rest) e in
    one rd (Use a ∷ Imm i ∷ rest) refl (past (Use a) (Imm i ∷ rest) refl (past (Imm i) rest refl (none_implicit rest h.1))) refl refl
sets_by_form (Load op) (Def rd ∷ Slot n ∷ Imm i ∷ rest) e =
    let h = and_parts (moves_slot _ i) (list_all is_implicit rest) e in
    one rd (Slot n ∷ Imm i ∷ rest) refl (past (Slot n) (Imm i ∷ rest) refl (past (Imm i) rest refl (none_implicit rest h.1))) refl refl
sets_by_form (Load op) (Def rd ∷ Object n ∷ Imm i ∷ rest) e =
    let h = and_parts (has_12_bits i) (list_all is_implicit rest) e in
    one rd (Object n ∷ Imm i ∷ rest) refl (past (Object n) (Imm i ∷ rest) refl (past (Imm i) rest refl (none_implicit rest h.1))) refl refl
sets_by_form (Load op) (Def rd ∷ Use a ∷ Part Lower y ∷ rest) e =
    one rd (Use a ∷ Part Lower y ∷ rest) refl (past (Use a) (Part Lower y ∷ rest) refl (past (Part Lower y) rest refl (none_implicit rest e))) refl refl
sets_by_form (Store op) (Use a ∷ Use b ∷ Imm i ∷ rest) e =
    let h = and_parts (has_12_bits i) (list_all is_implicit rest) e in
    no_register (past (Use a) (Use b ∷ Imm i ∷ rest) refl (past (Use b) (Imm i ∷ rest) refl (past (Imm i) rest refl (none_implicit rest h.1)))) refl refl
sets_by_form (Store op) (Use a ∷ Slot n ∷ Imm i ∷ rest) e =
    let h = and_parts (moves_slot _ i) (list_all is_implicit rest) e in
    no_register (past (Use a) (Slot n ∷ Imm i ∷ rest) refl (past (Slot n) (Imm i ∷ rest) refl (past (Imm i) rest refl (none_implicit rest h.1)))) refl refl
sets_by_form (Store op) (Use a ∷ Object n ∷ Imm i ∷ rest) e =
    let h = and_parts (has_12_bits i) (list_all is_implicit rest) e in
    no_register (past (Use a) (Object n ∷ Imm i ∷ rest) refl (past (Object n) (Imm i ∷ rest) refl (past (Imm i) rest refl (none_implicit rest h.1)))) refl refl
sets_by_form (Store op) (Use a ∷ Use b ∷ Part Lower y ∷ rest) e =
    no_register (past (Use a) (Use b ∷ Part Lower y ∷ rest) refl (past (Use b) (Part Lower y ∷ rest) refl
    (past (Part Lower y) rest refl (none_implicit rest e)))) refl refl
sets_by_form Copy (Def rd ∷ Use a ∷ rest) e =
    let s = move_sets rd a in
    one rd (Use a ∷ rest) refl (past (Use a) rest refl (none_implicit rest e)) s.0 s.1
sets_by_form PseudoBr (Block n ∷ rest) e = no_register (past (Block n) rest refl (none_implicit rest e)) refl refl
sets_by_form PseudoCall (Symbol name ∷ Mask ∷ rest) e = call _ (Symbol name) rest refl refl e refl
sets_by_form PseudoRet rest e = no_register (none_result rest e) refl refl
sets_by_form PseudoCallIndirect (Use r ∷ Mask ∷ rest) e = call _ (Use r) rest refl refl e refl
sets_by_form PseudoTail (Symbol name ∷ rest) e = no_register (past (Symbol name) rest refl (none_tail rest (held_tail_uses rest e))) refl refl
sets_by_form PseudoTailIndirect (ImplicitUse r ∷ rest) e =
    let h = and_parts (is_held_tail_register r) (list_all is_held_tail_use rest) e in
    let s = held_tail_sets (implicit_uses (ImplicitUse r ∷ rest)) in
    no_register (past (ImplicitUse r) rest refl (none_tail rest h.1)) s.0 s.1
sets_by_form NoReturnCall (Symbol name ∷ Mask ∷ rest) e =
    no_register (past (Symbol name) (Mask ∷ rest) refl (past Mask rest refl (none_argument rest (last_arguments rest e)))) refl refl
sets_by_form NoReturnCallIndirect (ImplicitUse r ∷ Mask ∷ rest) e =
    let h = and_parts (is_call_register r) (list_all is_last_argument rest) e in
    let s = held_gone_sets (implicit_uses (ImplicitUse r ∷ Mask ∷ rest)) in
    no_register (past (ImplicitUse r) (Mask ∷ rest) refl (past Mask rest refl (none_argument rest (last_arguments rest h.1)))) s.0 s.1
sets_by_form _ _ e = cc

-- ---- registers that a call names as set

abbrev from_on : (low count : ℕ) → List ℕ
from_on low zero = []
from_on low (suc n) = low ∷ from_on (suc low) n

in_range : (low n r : ℕ) → low ≤ r → r < low + n → Contains (from_on low n) r
in_range low zero r le lt = absurd (omega (arith, le, lt))
in_range low (suc n) r le lt = elim (cases_eq r low) [
  | inl e ↦ (0, omega arith, sym e)
  | inr ne ↦ (let w = in_range (suc low) n r (omega (arith, le, ne)) (omega (arith, lt)) in (suc w.0, (let k = w.1 in omega (arith, k)), w.2))
]

or_cases : (a b : Bool) → (a || b) ≡ true → (a ≡ true) ⊎ (b ≡ true)
or_cases true b e = inl refl
or_cases false b e = inr e

le_of : (m n : ℕ) → nat_le m n ≡ true → m ≤ n
le_of m n e = leb-true m n e

-- it is set by a call, or x0 or x2
clobbered : (r : ℕ) → is_clobbered r ≡ true → Contains caller_saved r ⊎ ((r ≡ 0) ⊎ (r ≡ 2))
clobbered r e =
    let later : List ℕ = from_on 10 8 ++ from_on 28 4 in
    let in_five : Contains (from_on 5 3) r → Contains caller_saved r = λ k.
    (let w = Contains-append_left (from_on 5 3) later r k in (suc w.0, (let l = w.1 in omega (arith, l)), w.2)) in
    let in_later : Contains later r → Contains caller_saved r = λ k.
    (let w = Contains-append_right (from_on 5 3) later r k in (suc w.0, (let l = w.1 in omega (arith, l)), w.2)) in
    let low : nat_le r 2 ≡ true → Contains caller_saved r ⊎ ((r ≡ 0) ⊎ (r ≡ 2)) = λ t. (let le = le_of r 2 t in elim (cases_eq r 1) [
      | inl first ↦ inl (0, omega arith, sym first)
      | inr ne ↦ inr (elim (cases_eq r 0) [ inl z ↦ inl z | inr nz ↦ inr (omega (arith, le, ne, nz)) ])
    ]) in
    let a : Bool = nat_le r 2 in
    let b : Bool = nat_le 5 r && nat_le r 7 in
    let c : Bool = nat_le 10 r && nat_le r 17 in
    let d : Bool = nat_le 28 r && nat_le r 31 in
    elim (or_cases ((a || b) || c) d e) [
      | inl abc ↦ elim (or_cases (a || b) c abc) [
        | inl ab ↦ elim (or_cases a b ab) [
          | inl t ↦ low t
          | inr t ↦ (let k = and_parts (nat_le 5 r) (nat_le r 7) t in let l = le_of 5 r k.0 in let m = le_of r 7 k.1 in
              inl (in_five (in_range 5 3 r l (omega (arith, m)))))
        ]
        | inr t ↦ (let k = and_parts (nat_le 10 r) (nat_le r 17) t in let l = le_of 10 r k.0 in let m = le_of r 17 k.1 in
            inl (in_later (Contains-append_left (from_on 10 8) (from_on 28 4) r (in_range 10 8 r l (omega (arith, m))))))
      ]
      | inr t ↦ (let k = and_parts (nat_le 28 r) (nat_le r 31) t in let l = le_of 28 r k.0 in let m = le_of r 31 k.1 in
          inl (in_later (Contains-append_right (from_on 10 8) (from_on 28 4) r (in_range 28 4 r l (omega (arith, m))))))
    ]

-- ---- what operands give to a number

module _ (i : Instruction) (Held : Place → Type 0) (zero_held : Held (Register 0)) (pointer_held : Held (Register 2)) where
  abbrev Given : ℕ → Type 0
  Given r = GenDefs Held i (Register r)

  by_argument : (x : Operand) (r : ℕ) (site : CallSite) → row_of i ≡ Calls site → is_argument x ≡ true → defined true (Some x) ≡ Some r → Given r
  by_argument (ImplicitDef q) r site row fits e =
      let same : q ≡ r = cc in
      subst Given same (elim (clobbered q fits) [
        | inl k ↦ inl (ap (λ (z : Row). defines_of z (Register q)) row ∙ row_defines (Calls site) (Register q) k)
        | inr other ↦ inr (elim other [
          | inl z ↦ subst (λ (n : ℕ). Held (Register n)) (sym z) zero_held
          | inr t ↦ subst (λ (n : ℕ). Held (Register n)) (sym t) pointer_held
        ])
      ])
  by_argument (ImplicitUse q) r site row fits e = cc
  by_argument _ r site row fits e = cc

  by_arguments : (os : List Operand) (o r : ℕ) (site : CallSite) → row_of i ≡ Calls site → list_all is_argument os ≡ true →
      defined true (slice_get os o) ≡ Some r → Given r
  by_arguments [] zero r site row fits e = cc
  by_arguments [] (suc o) r site row fits e = cc
  by_arguments (x ∷ os) zero r site row fits e = by_argument x r site row (and_parts (is_argument x) (list_all is_argument os) fits).0 e
  by_arguments (x ∷ os) (suc o) r site row fits e = by_arguments os o r site row (and_parts (is_argument x) (list_all is_argument os) fits).1 e

  -- it is defined, or x0 or x2
  gives_held : Sets i.operands (row_of i) → (o r : ℕ) → defined (is_call (row_of i)) (slice_get i.operands o) ≡ Some r → Given r
  gives_held (one rd rest os none no_call sets_one) o r e = at o (ap (λ (xs : List Operand). defined false (slice_get xs o)) (sym os) ∙
      ap (λ (z : Bool). defined z (slice_get i.operands o)) (sym no_call) ∙ e) where
        at : (o : ℕ) → defined false (slice_get (Def rd ∷ rest) o) ≡ Some r → Given r
        at zero e =
            let same : rd ≡ r = cc in
            subst Given same (inl (row_defines (row_of i) (Register rd) (subst (λ (ns : List ℕ). Contains ns rd) (sym sets_one) (0, omega arith, refl))))
        at (suc o) e = let bad : None ≡ Some r = sym (none o) ∙ e in cc
  gives_held (no_register none no_call sets_none) o r e =
      let bad : None ≡ Some r = sym (none o) ∙ ap (λ (z : Bool). defined z (slice_get i.operands o)) (sym no_call) ∙ e in cc
  gives_held (call site first rest none os fits row) o r e = at o (ap (λ (xs : List Operand). defined true (slice_get xs o)) (sym os) ∙
      ap (λ (z : Row). defined (is_call z) (slice_get i.operands o)) (sym row) ∙ e) where
        at : (o : ℕ) → defined true (slice_get (first ∷ Mask ∷ rest) o) ≡ Some r → Given r
        at zero e = let bad : None ≡ Some r = sym none ∙ e in cc
        at (suc zero) e = cc
        at (suc (suc o)) e = by_arguments rest o r site row fits e

  pub numbers_held : has_form i.op i.operands ≡ true → (n : Option ℕ) → NumbersHeld Held i n
  numbers_held form None = tt
  numbers_held form (Some k) = λ o r e. gives_held (sets_by_form i.op i.operands form) o r e

-- ---- x2 is set by no pure code

pub no_pointer : (i : Instruction) → has_form i.op i.operands ≡ true → All IsNotPointer i.operands → is_pure (row_of i) ≡ true →
    defines_of (row_of i) (Register 2) ≡ true → ⊥
no_pointer i form plain pure e = by_sets (sets_by_form i.op i.operands form) where
  by_sets : Sets i.operands (row_of i) → ⊥
  by_sets (one rd rest os none no_call sets_one) =
      let k : (nat_eq 2 rd || false) ≡ true = ap (λ (ns : List ℕ). list_any (nat_eq 2) ns) (sym sets_one) ∙ e in
      let head : IsNotPointer (Def rd) = All-head IsNotPointer (Def rd) rest (subst (λ (xs : List Operand). All IsNotPointer xs) os plain) in
      elim (or_cases (nat_eq 2 rd) false k) [ inl t ↦ head (sym (eqb-true 2 rd t)) | inr t ↦ (let bad : false ≡ true = t in cc) ]
  by_sets (no_register none no_call sets_none) = let bad : false ≡ true = ap (λ (ns : List ℕ). list_any (nat_eq 2) ns) (sym sets_none) ∙ e in cc
  by_sets (call site first rest none os fits row) = let bad : false ≡ true = ap is_pure (sym row) ∙ pure in cc
