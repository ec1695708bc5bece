-- What is listed calls exactly where the instruction does, and leaves for a callee where it does.
use Rattle.std.proofs.Common.{◌≡◌, inl, inr, ℕ, List, [], ◌∷◌, None, Bool, false, refl, sym, ap, ◌∙◌}
use Rattle.rv64_instr.specs.declared.op.Op.{Op}
use Rattle.rv64_instr.specs.declared.op.Op.TheVariants.{PseudoCall}
use Rattle.rv64_instr.specs.declared.operand.Operand.{Operand}
use Rattle.rv64_instr.specs.declared.operand.Operand.TheVariants.{Def, Use, ImplicitDef, ImplicitUse, Imm, Slot, Object, Part, Block, Symbol, Mask, Outgoing}
use Rattle.rv64_instr.specs.declared.operand.Operand.TheVariants.{GlobalRegisters}
use Rattle.rv64_instr.specs.Instruction.{Instruction}
use Rattle.rv64_instr.specs.LocationEffects.{is_call}
use Rattle.rv64_instr.specs.Row.{Row, Calls}
use Rattle.rv64_instr.specs.Row.{row_of, row_by}
use Rattle.mir_func.specs.Function.{FramedFunction}
use Rattle.mir_func.specs.Exits.{row_exit}
use Rattle.mir_func.specs.declared.exit.Exit.TheVariants.{Perhaps}
use Rattle.sem_machine.specs.MachineStep.{call_of, left_by}
use Rattle.rv64_instr.specs.LocationEffects.{part_named}
use Rattle.rv64_instr.specs.Row.{Sets, Loads, Stores, Branches, Returns}
use Rattle.machine_steps_proof.proofs.Listed.{branch_inverted, held_listed}
use Rattle.emit_code.specs.LongBranch.{skip_of, jump_to}
use Rattle.emit_code.specs.Listed.{by_pointer, listed}
use Rattle.emit_code.specs.Rule.{LongBranch, row_form}
use Rattle.emit_code.proofs.Stand.{long_exits}
use Rattle.sim_machine.proofs.Calls.{quiet}

none_of : (r : Row) → is_call r ≡ false → call_of r ≡ None
none_of (Calls call) e = cc
none_of _ e = refl

-- the operand before what is reached by x2 stays
first_kept : (f : FramedFunction) (x : Operand) (rest : List Operand) → (more : List Operand) × (by_pointer f (x ∷ rest) ≡ x ∷ more)
first_kept f x (Slot n ∷ Imm i ∷ rest) = (_, refl)
first_kept f x (Object n ∷ Imm i ∷ rest) = (_, refl)
first_kept f x rest = (rest, refl)

no_symbol : (f : FramedFunction) (x : Operand) (rest : List Operand) → ((more : List Operand) → call_of (row_by PseudoCall (x ∷ more)) ≡ None) →
    call_of (row_by PseudoCall (by_pointer f (x ∷ rest))) ≡ call_of (row_by PseudoCall (x ∷ rest))
no_symbol f x rest none =
    let h = first_kept f x rest in ap (λ (os : List Operand). call_of (row_by PseudoCall os)) h.1 ∙ (none h.0 ∙ sym (none rest))

symbol : (f : FramedFunction) (n : List ℕ) (rest : List Operand) →
    call_of (row_by PseudoCall (by_pointer f (Symbol n ∷ rest))) ≡ call_of (row_by PseudoCall (Symbol n ∷ rest))
symbol f n (Slot m ∷ Imm i ∷ rest) = refl
symbol f n (Object m ∷ Imm i ∷ rest) = refl
symbol f n _ = refl

call_operands : (f : FramedFunction) (os : List Operand) → call_of (row_by PseudoCall (by_pointer f os)) ≡ call_of (row_by PseudoCall os)
call_operands f [] = refl
call_operands f (Symbol n ∷ rest) = symbol f n rest
call_operands f (Def r ∷ rest) = no_symbol f (Def r) rest (λ more. refl)
call_operands f (Use r ∷ rest) = no_symbol f (Use r) rest (λ more. refl)
call_operands f (ImplicitDef r ∷ rest) = no_symbol f (ImplicitDef r) rest (λ more. refl)
call_operands f (ImplicitUse r ∷ rest) = no_symbol f (ImplicitUse r) rest (λ more. refl)
call_operands f (Imm i ∷ rest) = no_symbol f (Imm i) rest (λ more. refl)
call_operands f (Slot m ∷ rest) = no_symbol f (Slot m) rest (λ more. refl)
call_operands f (Object m ∷ rest) = no_symbol f (Object m) rest (λ more. refl)
call_operands f (Part half y ∷ rest) = no_symbol f (Part half y) rest (λ more. refl)
call_operands f (Block m ∷ rest) = no_symbol f (Block m) rest (λ more. refl)
call_operands f (Mask ∷ rest) = no_symbol f Mask rest (λ more. refl)
call_operands f (Outgoing n ∷ rest) = no_symbol f (Outgoing n) rest (λ more. refl)
call_operands f (GlobalRegisters ∷ rest) = no_symbol f GlobalRegisters rest (λ more. refl)

by_op : (f : FramedFunction) (op : Op) (os : List Operand) → call_of (row_by op (by_pointer f os)) ≡ call_of (row_by op os)
by_op f op os = elim (quiet op) as (λ _. call_of (row_by op (by_pointer f os)) ≡ call_of (row_by op os)) [
  | inl is ↦ ap (λ (o : Op). call_of (row_by o (by_pointer f os))) is ∙ (call_operands f os ∙ ap (λ (o : Op). call_of (row_by o os)) (sym is))
  | inr others ↦ elim others as (λ _. call_of (row_by op (by_pointer f os)) ≡ call_of (row_by op os)) [
    | inl is ↦ ap (λ (o : Op). call_of (row_by o (by_pointer f os))) is ∙ ap call_of (held_listed f os)
        ∙ ap (λ (o : Op). call_of (row_by o os)) (sym is)
    | inr none ↦ none_of (row_by op (by_pointer f os)) (none (by_pointer f os)) ∙ sym (none_of (row_by op os) (none os))
  ]
]

pub call_listed : (f : FramedFunction) (c : Instruction) → call_of (row_of (listed f c)) ≡ call_of (row_of c)
call_listed f c = by_op f c.op c.operands

-- ---- long branches

-- a long branch is no call
pub long_none : (long : Bool) (r : Row) (b : ℕ) → row_form long r ≡ LongBranch b → call_of r ≡ None
long_none long r b e = by_row r (long_exits long r b e) where
  by_row : (r : Row) → row_exit r ≡ Perhaps b → call_of r ≡ None
  by_row (Calls call) h = cc
  by_row _ h = refl

pub skip_none : (long : Bool) (c : Instruction) (b : ℕ) → row_form long (row_of c) ≡ LongBranch b → call_of (row_of (skip_of c)) ≡ None
skip_none long c b e = by_row (row_of c) refl (long_exits long (row_of c) b e) where
  by_row : (r : Row) → row_of c ≡ r → row_exit r ≡ Perhaps b → call_of (row_of (skip_of c)) ≡ None
  by_row (Branches op x y n) is long_is = (branch_inverted c.op c.operands op x y n is).1
  by_row _ is long_is = cc

pub jump_none : (b : ℕ) → call_of (row_of (jump_to b)) ≡ None
jump_none b = refl

-- and leaves for no callee
pub long_stays : (long : Bool) (r : Row) (b : ℕ) → row_form long r ≡ LongBranch b → left_by r ≡ None
long_stays long r b e = by_row r (long_exits long r b e) where
  by_row : (r : Row) → row_exit r ≡ Perhaps b → left_by r ≡ None
  by_row (Returns ending) h = cc
  by_row _ h = refl

pub skip_stays : (long : Bool) (c : Instruction) (b : ℕ) → row_form long (row_of c) ≡ LongBranch b → left_by (row_of (skip_of c)) ≡ None
skip_stays long c b e = by_row (row_of c) refl (long_exits long (row_of c) b e) where
  by_row : (r : Row) → row_of c ≡ r → row_exit r ≡ Perhaps b → left_by (row_of (skip_of c)) ≡ None
  by_row (Branches op x y n) is long_is = (branch_inverted c.op c.operands op x y n is).3
  by_row _ is long_is = cc

-- a long branch has no half of an address, and its skip has none
pub long_whole : (long : Bool) (r : Row) (b : ℕ) → row_form long r ≡ LongBranch b → part_named r ≡ None
long_whole long r b e = by_row r (long_exits long r b e) where
  by_row : (r : Row) → row_exit r ≡ Perhaps b → part_named r ≡ None
  by_row (Sets rd op a x) h = cc
  by_row (Loads rd op base offset) h = cc
  by_row (Stores op rs base offset) h = cc
  by_row _ h = refl

pub skip_whole : (long : Bool) (c : Instruction) (b : ℕ) → row_form long (row_of c) ≡ LongBranch b → part_named (row_of (skip_of c)) ≡ None
skip_whole long c b e = by_row (row_of c) refl (long_exits long (row_of c) b e) where
  by_row : (r : Row) → row_of c ≡ r → row_exit r ≡ Perhaps b → part_named (row_of (skip_of c)) ≡ None
  by_row (Branches op x y n) is long_is = (branch_inverted c.op c.operands op x y n is).2
  by_row _ is long_is = cc
