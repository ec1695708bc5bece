-- What branches and jumps are once they are sent elsewhere.
use Rattle.std.proofs.Common.{◌≡◌, ℕ, zero, suc, List, ◌∷◌, All, Contains, refl, sym, subst, []}
use Rattle.std.proofs.lemmas.List.Elements.{All-set}
use Rattle.rv64_instr.specs.declared.op.Op.{Op}
use Rattle.rv64_instr.specs.declared.op.BranchOp.{BranchOp}
use Rattle.rv64_instr.specs.declared.op.ImmediateOp.{ImmediateOp}
use Rattle.rv64_instr.specs.declared.op.ImmediateOp.TheVariants.{Addi}
use Rattle.rv64_instr.specs.declared.op.Op.TheVariants.{Registers, Immediate, Lui, Branch, Load, Store, Copy}
use Rattle.rv64_instr.specs.declared.op.Op.TheVariants.{PseudoBr, PseudoCall, PseudoRet, PseudoCallIndirect}
use Rattle.rv64_instr.specs.declared.op.Op.TheVariants.{PseudoTail, PseudoTailIndirect, NoReturnCall, NoReturnCallIndirect}
use Rattle.rv64_instr.specs.declared.operand.Operand.{Operand}
use Rattle.rv64_instr.specs.declared.operand.Operand.TheVariants.{Def, Use, Imm, Slot, Object, Block as OfBlock, Symbol}
use Rattle.rv64_instr.specs.Arithmetic.{word}
use Rattle.rv64_instr.specs.Row.{Row, Branches, Jumps}
use Rattle.rv64_instr.specs.Row.{row_of, row_by, immediate_row, object_row, move_row, implicit_uses, held_tail, held_gone}
use Rattle.rv64_instr.specs.Inverse.{inverse_op}
use Rattle.mir_func.specs.declared.exit.Exit.{Exit}
use Rattle.mir_func.specs.declared.exit.Exit.TheVariants.{Onward, Perhaps, Always, Final}
use Rattle.mir_func.specs.declared.item.ItemKind.{ItemKind}
use Rattle.mir_func.specs.declared.item.ItemKind.TheVariants.{Code, Mark, Phi}
use Rattle.mir_func.specs.declared.object.Object.{Object as StackObject}
use Rattle.mir_func.specs.Exits.{row_exit, exit_of}
use Rattle.mir_func.specs.Sound.{TargetIn, TargetsIn, SlotIn, PassedIn, SlotsIn, ObjectIn, ObjectsIn, IsNotPointer, LeavesPointer}
use Rattle.mir_func.specs.Sound.{PassesFirst, KindPassesFirst}
use Rattle.fold_rule.specs.Turned.{aimed, to_block, inverse_to, with_code}

-- control leaves by a branch or a jump
abbrev pub Leads : Exit → Type 0
Leads (Perhaps n) = Unit {0}
Leads (Always n) = Unit {0}
Leads Onward = ⊥
Leads Final = ⊥

-- ---- rows of other operations

onward_immediate : (op : ImmediateOp) (rd a n : ℕ) → row_exit (immediate_row op rd a n) ≡ Onward
onward_immediate Addi rd zero n = refl
onward_immediate Addi rd (suc a) zero = refl
onward_immediate Addi rd (suc a) (suc n) = refl
onward_immediate _ rd a n = refl

never_object : (op : ImmediateOp) (rd m n : ℕ) → Leads (row_exit (object_row op rd m n)) → ⊥
never_object Addi rd m n h = h
never_object _ rd m n h = h

onward_move : (rd rs : ℕ) → row_exit (move_row rd rs) ≡ Onward
onward_move rd zero = refl
onward_move rd (suc rs) = refl

-- the operation of a branch or a jump, with operands in its form
pub data IsEnding : Op → List Operand → Type 0 where
  branch : {op : BranchOp} {a b t : ℕ} {rest : List Operand} → IsEnding (Branch op) (Use a ∷ Use b ∷ OfBlock t ∷ rest)
  jump : {t : ℕ} {rest : List Operand} → IsEnding PseudoBr (OfBlock t ∷ rest)

held_tail_leads : (xs : List ℕ) → Leads (row_exit (held_tail xs)) → ⊥
held_tail_leads [] h = h
held_tail_leads (r ∷ xs) h = h

held_gone_leads : (xs : List ℕ) → Leads (row_exit (held_gone xs)) → ⊥
held_gone_leads [] h = h
held_gone_leads (r ∷ xs) h = h

pub is_ending : (op : Op) (os : List Operand) → Leads (row_exit (row_by op os)) → IsEnding op os
is_ending (Branch op) (Use a ∷ Use b ∷ OfBlock t ∷ rest) h = branch
is_ending PseudoBr (OfBlock t ∷ rest) h = jump
is_ending PseudoRet os h = absurd h
is_ending (Registers op) (Def rd ∷ Use a ∷ Use b ∷ rest) h = absurd h
is_ending (Immediate op) (Def rd ∷ Use a ∷ Imm i ∷ rest) h = absurd (subst Leads (onward_immediate op rd a (word i)) h)
is_ending (Immediate op) (Def rd ∷ Object m ∷ Imm i ∷ rest) h = absurd (never_object op rd m (word i) h)
is_ending Lui (Def rd ∷ Imm i ∷ rest) h = absurd h
is_ending (Load op) (Def rd ∷ Use base ∷ Imm i ∷ rest) h = absurd h
is_ending (Load op) (Def rd ∷ Slot m ∷ rest) h = absurd h
is_ending (Load op) (Def rd ∷ Object m ∷ Imm i ∷ rest) h = absurd h
is_ending (Store op) (Use rs ∷ Use base ∷ Imm i ∷ rest) h = absurd h
is_ending (Store op) (Use rs ∷ Slot m ∷ rest) h = absurd h
is_ending (Store op) (Use rs ∷ Object m ∷ Imm i ∷ rest) h = absurd h
is_ending Copy (Def rd ∷ Use rs ∷ rest) h = absurd (subst Leads (onward_move rd rs) h)
is_ending PseudoCall (Symbol name ∷ rest) h = absurd h
is_ending PseudoCallIndirect (Use r ∷ rest) h = absurd h
is_ending PseudoTail (Symbol name ∷ rest) h = absurd h
is_ending PseudoTailIndirect os h = absurd (held_tail_leads (implicit_uses os) h)
is_ending NoReturnCall (Symbol name ∷ rest) h = absurd h
is_ending NoReturnCallIndirect os h = absurd (held_gone_leads (implicit_uses os) h)
is_ending _ _ h = absurd h

sent_exit_by : (op : Op) (os : List Operand) (n : ℕ) → IsEnding op os →
    ((t : ℕ) → row_exit (row_by op os) ≡ Perhaps t → (row_exit (row_by op (aimed op n os)) ≡ Perhaps n) ×
    (row_exit (row_by (inverse_op op) (aimed op n os)) ≡ Perhaps n)) ×
    ((t : ℕ) → row_exit (row_by op os) ≡ Always t → row_exit (row_by op (aimed op n os)) ≡ Always n)
sent_exit_by _ _ n branch = (λ t e. (refl, refl), λ t e. cc)
sent_exit_by _ _ n jump = (λ t e. cc, λ t e. refl)

pub leads_by : (e : Exit) (t : ℕ) → e ≡ Perhaps t → Leads e
leads_by e t h = subst Leads (sym h) tt

pub leads_always : (e : Exit) (t : ℕ) → e ≡ Always t → Leads e
leads_always e t h = subst Leads (sym h) tt

pub sent_branch : (k : ItemKind) (t n : ℕ) → exit_of k ≡ Perhaps t → exit_of (with_code (to_block n) k) ≡ Perhaps n
sent_branch (Code i m) t n e = ((sent_exit_by i.op i.operands n (is_ending i.op i.operands (leads_by (row_exit (row_of i)) t e))).0 t e).0
sent_branch (Mark v m) t n e = cc
sent_branch (Phi p m) t n e = cc

pub turned_branch : (k : ItemKind) (t n : ℕ) → exit_of k ≡ Perhaps t → exit_of (with_code (inverse_to n) k) ≡ Perhaps n
turned_branch (Code i m) t n e = ((sent_exit_by i.op i.operands n (is_ending i.op i.operands (leads_by (row_exit (row_of i)) t e))).0 t e).1
turned_branch (Mark v m) t n e = cc
turned_branch (Phi p m) t n e = cc

pub sent_jump : (k : ItemKind) (t n : ℕ) → exit_of k ≡ Always t → exit_of (with_code (to_block n) k) ≡ Always n
sent_jump (Code i m) t n e = (sent_exit_by i.op i.operands n (is_ending i.op i.operands (leads_always (row_exit (row_of i)) t e))).1 t e
sent_jump (Mark v m) t n e = cc
sent_jump (Phi p m) t n e = cc

-- ---- what items ask of their function

-- the exit goes to one of these blocks, if it goes elsewhere
abbrev pub GoesIn : List ℕ → Exit → Type 0
GoesIn ids (Perhaps n) = Contains ids n
GoesIn ids (Always n) = Contains ids n
GoesIn ids Onward = Unit {0}
GoesIn ids Final = Unit {0}

row_targets : (ids : List ℕ) (r : Row) → GoesIn ids (row_exit r) → TargetIn ids r
row_targets ids (Branches op a b t) h = h
row_targets ids (Jumps t) h = h
row_targets ids _ h = tt

targets_row : (ids : List ℕ) (r : Row) → TargetIn ids r → GoesIn ids (row_exit r)
targets_row ids (Branches op a b t) h = h
targets_row ids (Jumps t) h = h
targets_row ids _ h = tt

pub kind_targets : (ids : List ℕ) (k : ItemKind) → GoesIn ids (exit_of k) → TargetsIn ids k
kind_targets ids (Code i m) h = row_targets ids (row_of i) h
kind_targets ids (Mark v m) h = tt
kind_targets ids (Phi p m) h = tt

pub targets_kind : (ids : List ℕ) (k : ItemKind) → TargetsIn ids k → GoesIn ids (exit_of k)
targets_kind ids (Code i m) h = targets_row ids (row_of i) h
targets_kind ids (Mark v m) h = tt
targets_kind ids (Phi p m) h = tt

row_slots : (slots : List ℕ) (r : Row) → Leads (row_exit r) → SlotIn slots r
row_slots slots (Branches op a b t) h = tt
row_slots slots (Jumps t) h = tt
row_slots slots _ h = absurd h

row_first : (slots : List ℕ) (r : Row) → Leads (row_exit r) → PassesFirst slots r
row_first slots (Branches op a b t) h = tt
row_first slots (Jumps t) h = tt
row_first slots _ h = absurd h

row_objects : (objects : List StackObject) (r : Row) → Leads (row_exit r) → ObjectIn objects r
row_objects objects (Branches op a b t) h = tt
row_objects objects (Jumps t) h = tt
row_objects objects _ h = absurd h

-- the slots that code passes to a callee are among these
abbrev pub PassesIn : List ℕ → ItemKind → Type 0
PassesIn slots (Code i m) = All (PassedIn slots) i.operands
PassesIn slots (Mark v m) = Unit {0}
PassesIn slots (Phi p m) = Unit {0}

pub passes_in : (slots : List ℕ) (k : ItemKind) → SlotsIn slots k → PassesIn slots k
passes_in slots (Code i m) h = h.1
passes_in slots (Mark v m) h = tt
passes_in slots (Phi p m) h = tt

pub leading_slots : (slots : List ℕ) (k : ItemKind) → Leads (exit_of k) → PassesIn slots k → SlotsIn slots k
leading_slots slots (Code i m) h passes = (row_slots slots (row_of i) h, passes)
leading_slots slots (Mark v m) h passes = absurd h
leading_slots slots (Phi p m) h passes = absurd h

pub leading_first : (slots : List ℕ) (k : ItemKind) → Leads (exit_of k) → KindPassesFirst slots k
leading_first slots (Code i m) h = row_first slots (row_of i) h
leading_first slots (Mark v m) h = absurd h
leading_first slots (Phi p m) h = absurd h

pub leading_objects : (objects : List StackObject) (k : ItemKind) → Leads (exit_of k) → ObjectsIn objects k
leading_objects objects (Code i m) h = row_objects objects (row_of i) h
leading_objects objects (Mark v m) h = absurd h
leading_objects objects (Phi p m) h = absurd h

-- what holds of all operands, and of a block's, holds of all with another block
aimed_all : (P : Operand → Type 0) (n : ℕ) → P (OfBlock n) → (op : Op) (os : List Operand) → All P os → All P (aimed op n os)
aimed_all P n is (Branch op) os h = All-set P os 2 (OfBlock n) is h
aimed_all P n is PseudoBr os h = All-set P os 0 (OfBlock n) is h
aimed_all P n is _ os h = h

pub sent_passes : (slots : List ℕ) (k : ItemKind) (n : ℕ) → PassesIn slots k → PassesIn slots (with_code (to_block n) k)
sent_passes slots (Code i m) n h = aimed_all (PassedIn slots) n tt i.op i.operands h
sent_passes slots (Mark v m) n h = h
sent_passes slots (Phi p m) n h = h

pub turned_passes : (slots : List ℕ) (k : ItemKind) (n : ℕ) → PassesIn slots k → PassesIn slots (with_code (inverse_to n) k)
turned_passes slots (Code i m) n h = aimed_all (PassedIn slots) n tt i.op i.operands h
turned_passes slots (Mark v m) n h = h
turned_passes slots (Phi p m) n h = h

pub sent_pointer : (k : ItemKind) (n : ℕ) → LeavesPointer k → LeavesPointer (with_code (to_block n) k)
sent_pointer (Code i m) n h = aimed_all IsNotPointer n tt i.op i.operands h
sent_pointer (Mark v m) n h = h
sent_pointer (Phi p m) n h = h

pub turned_pointer : (k : ItemKind) (n : ℕ) → LeavesPointer k → LeavesPointer (with_code (inverse_to n) k)
turned_pointer (Code i m) n h = aimed_all IsNotPointer n tt i.op i.operands h
turned_pointer (Mark v m) n h = h
turned_pointer (Phi p m) n h = h
