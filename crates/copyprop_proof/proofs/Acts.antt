-- Code with roots for its explicit uses does what the code did, where copies hold what their roots hold.
use Rattle.std.proofs.Common.{◌≡◌, ℕ, zero, suc, ◌+◌, ◌%◌, ◌^◌, List, [], ◌∷◌, ◌++◌, map, Option, Some, None, Bool, true, false, cond, ◌&&◌, slice_get, is_some, refl}
use Rattle.std.proofs.Common.{sym, ap, ◌∙◌}
use Rattle.rv64_instr.specs.declared.operand.Operand.{Operand}
use Rattle.rv64_instr.specs.declared.operand.Operand.TheVariants.{Def, Use, ImplicitDef, ImplicitUse, Imm, Slot, Object, Part, Outgoing, Block, Symbol, Mask}
use Rattle.rv64_instr.specs.declared.operand.Operand.TheVariants.{GlobalRegisters}
use Rattle.rv64_instr.specs.declared.symbol.Half.TheVariants.{Lower}
use Rattle.rv64_instr.specs.Linked.{linked_value}
use Rattle.rv64_instr.specs.Row.{Input, Content, Number, PartOf}
use Rattle.rv64_instr.specs.Row.{Base, PointedBy, ObjectAt, BesidePart}
use Rattle.rv64_instr.specs.Arithmetic.{computed, taken}
use Rattle.rv64_instr.specs.declared.op.LoadOp.{LoadOp}
use Rattle.rv64_instr.specs.declared.op.LoadOp.TheVariants.{Ld}
use Rattle.rv64_instr.specs.declared.op.StoreOp.{StoreOp}
use Rattle.rv64_instr.specs.declared.op.RegisterOp.TheVariants.{Add}
use Rattle.rv64_instr.specs.Instruction.{Instruction}
use Rattle.rv64_instr.specs.Row.{Row, Moves, Sets, Loads, Stores, StoresSlot, Branches, Calls, Callee, Named, Held, row_of}
use Rattle.rv64_instr.specs.declared.start.CallTarget.{CallTarget}
use Rattle.rv64_instr.specs.declared.start.CallTarget.TheVariants.{Address}
use Rattle.rv64_instr.specs.DefsAndUses.{reads, callee_reads}
use Rattle.rv64_instr.specs.LocationEffects.{is_call}
use Rattle.mir_func.specs.declared.item.ItemKind.TheVariants.{Code}
use Rattle.mir_func.specs.Graph.{Program}
use Rattle.sem_mir.specs.State.{Core, content, updated}
use Rattle.sem_mir.specs.Step.{Falls, Goes, Traps, or_zero, read, input_value, base_value, address_at, is_fault, set_register, loaded}
use Rattle.sem_mir.specs.Step.{put_in_memory, called_at, passed, exec_external_call}
use Rattle.sem_mir.specs.Step.{does, are_written, act, numbered, given, defined, with_core, do_item}
use Rattle.copyprop_block.specs.declared.roots.Root.{Root}
use Rattle.copyprop_block.specs.Roots.{root_of, renamed_operand, renamed}
use Rattle.copyprop_rule.proofs.Rows.{rooted_input, rooted_base, rooted_callee, rooted, KeepsZero, row_renamed, call_rooted}

module _ (e : List Root) (d : Core) (holds : (r : ℕ) → content d.regs r ≡ content d.regs (root_of e r)) where
  read_root : (r : ℕ) → read d (root_of e r) ≡ read d r
  read_root r = ap or_zero (sym (holds r))

  input_root : (b : Input) → input_value d (rooted_input e b) ≡ input_value d b
  input_root (Content r) = read_root r
  input_root (Number n) = refl
  input_root (PartOf half y) = refl

  base_root : (b : Base) → base_value d (rooted_base e b) ≡ base_value d b
  base_root (PointedBy r) = read_root r
  base_root (ObjectAt n) = refl
  base_root (BesidePart r y) = ap (λ (z : ℕ). (z + linked_value d.symbols Lower y) % 2 ^ 64) (read_root r)

  address_root : (b : Base) (o : ℕ) → address_at d (rooted_base e b) o ≡ address_at d b o
  address_root b o = ap (λ (z : ℕ). (z + o) % 2 ^ 64) (base_root b)

  fault_root : (b : Base) (a n : ℕ) → is_fault (rooted_base e b) d a n ≡ is_fault b d a n
  fault_root (PointedBy r) a n = refl
  fault_root (ObjectAt m) a n = refl
  fault_root (BesidePart r y) a n = refl

  loaded_root : (rd : ℕ) (op : LoadOp) (b : Base) (a a' : ℕ) → a ≡ a' → loaded rd op (rooted_base e b) a d ≡ loaded rd op b a' d
  loaded_root rd op (PointedBy r) a a' is = ap (λ (z : ℕ). loaded rd op (PointedBy r) z d) is
  loaded_root rd op (ObjectAt n) a a' is = ap (λ (z : ℕ). loaded rd op (ObjectAt n) z d) is
  loaded_root rd op (BesidePart r y) a a' is = ap (λ (z : ℕ). loaded rd op (BesidePart r y) z d) is

  stored_root : (op : StoreOp) (b : Base) (a a' v v' : ℕ) → a ≡ a' → v ≡ v' → put_in_memory op (rooted_base e b) a v d ≡ put_in_memory op b a' v' d
  stored_root op (PointedBy r) a a' v v' is same = λ i. put_in_memory op (PointedBy r) (is i) (same i) d
  stored_root op (ObjectAt n) a a' v v' is same = λ i. put_in_memory op (ObjectAt n) (is i) (same i) d
  stored_root op (BesidePart r y) a a' v v' is same = λ i. put_in_memory op (BesidePart r y) (is i) (same i) d

  called_root : (callee : Callee) → called_at d (rooted_callee e callee) ≡ called_at d callee
  called_root (Named name) = refl
  called_root (Held r) = ap Address (read_root r)

  does_root : (r : Row) → does (rooted e r) d ≡ does r d
  unfolding does
  does_root (Moves rd rs) = ap (λ (v : ℕ). Falls (set_register rd v d)) (read_root rs)
  does_root (Sets rd op a b) = let x = read_root a in let y = input_root b in λ i. Falls (set_register rd (computed op (x i) (y i)) d)
  does_root (Loads rd op b o) = loaded_root rd op b (address_at d (rooted_base e b) o) (address_at d b o) (address_root b o)
  does_root (Stores op rs b o) =
      stored_root op b (address_at d (rooted_base e b) o) (address_at d b o) (read d (root_of e rs)) (read d rs) (address_root b o) (read_root rs)
  does_root (StoresSlot rs n) = ap (λ (v : ℕ). Falls (record d { slots = updated n (Some v) d.slots })) (read_root rs)
  does_root (Branches op a b t) = let x = read_root a in let y = read_root b in λ i. cond (taken op (x i) (y i)) (Goes t d) (Falls d)
  does_root (Calls call) = ap (λ (t : CallTarget). exec_external_call t (passed d call) call.outgoing d d.script) (called_root call.callee)
  does_root _ = refl

  one_written : (r : ℕ) → is_some (content d.regs (root_of e r)) ≡ is_some (content d.regs r)
  one_written r = ap is_some (sym (holds r))

  input_written : (a : ℕ) (b : Input) → are_written d (reads (Sets a Add (root_of e a) (rooted_input e b))) ≡ are_written d (reads (Sets a Add a b))
  input_written a (Content r) = let x = one_written a in let y = one_written r in λ i. x i && (y i && true)
  input_written a (Number n) = let x = one_written a in λ i. x i && true
  input_written a (PartOf half y) = let x = one_written a in λ i. x i && true

  base_written : (b : Base) → are_written d (reads (Loads 0 Ld (rooted_base e b) 0)) ≡ are_written d (reads (Loads 0 Ld b 0))
  base_written (PointedBy r) = let y = one_written r in λ i. y i && true
  base_written (ObjectAt n) = refl
  base_written (BesidePart r y) = let z = one_written r in λ i. z i && true

  callee_written : (callee : Callee) (rest : List ℕ) →
      are_written d (callee_reads (rooted_callee e callee) ++ rest) ≡ are_written d (callee_reads callee ++ rest)
  callee_written (Named name) rest = refl
  callee_written (Held r) rest = let x = one_written r in λ i. x i && are_written d rest

  rows_written : (r : Row) → are_written d (reads (rooted e r)) ≡ are_written d (reads r)
  rows_written (Moves rd rs) = let x = one_written rs in λ i. x i && true
  rows_written (Sets rd op a b) = input_written a b
  rows_written (Loads rd op b o) = base_written b
  rows_written (Stores op rs b o) = let x = one_written rs in let y = base_written b in λ i. x i && y i
  rows_written (StoresSlot rs n) = let x = one_written rs in λ i. x i && true
  rows_written (Branches op a b t) = let x = one_written a in let y = one_written b in λ i. x i && (y i && true)
  rows_written (Calls call) = callee_written call.callee call.args
  rows_written _ = refl

  act_root : (r : Row) → act (rooted e r) d ≡ act r d
  unfolding act
  act_root r = let x = rows_written r in let y = does_root r in λ i. cond (x i) (y i) Traps

-- an operand defines what it did
defined_one : (e : List Root) (call : Bool) (o : Operand) → defined call (Some (renamed_operand e o)) ≡ defined call (Some o)
defined_one e false (Def r) = refl
defined_one e false (ImplicitDef r) = refl
defined_one e false (Use r) = refl
defined_one e false (ImplicitUse r) = refl
defined_one e false (Imm n) = refl
defined_one e false (Slot n) = refl
defined_one e false (Object n) = refl
defined_one e false (Part half y) = refl
defined_one e false (Outgoing n) = refl
defined_one e false GlobalRegisters = refl
defined_one e false (Block n) = refl
defined_one e false (Symbol n) = refl
defined_one e false Mask = refl
defined_one e true (Def r) = refl
defined_one e true _ = refl

pub defined_same : (e : List Root) (call : Bool) (os : List Operand) (o : ℕ) →
    defined call (slice_get (map (renamed_operand e) os) o) ≡ defined call (slice_get os o)
defined_same e call [] o = refl
defined_same e call (x ∷ os) zero = defined_one e call x
defined_same e call (x ∷ os) (suc o) = defined_same e call os o

numbered_same : (e : List Root) (sp call : Bool) (n : Option ℕ) (os : List Operand) (c : Core) →
    numbered sp call n (map (renamed_operand e) os) c ≡ numbered sp call n os c
numbered_same e sp call None os c = refl
numbered_same e sp call (Some k) os c =
    λ i. record c { pairs = updated k (λ o. given sp (defined_same e call os o i) (c.pairs k o) c) c.pairs }

-- so the item does what it did
pub do_root : (g : Program) (e : List Root) (keeps : KeepsZero e) (i : Instruction) (n : Option ℕ) (d : Core) →
    ((r : ℕ) → content d.regs r ≡ content d.regs (root_of e r)) → do_item g (Code (renamed e i) n) d ≡ do_item g (Code i n) d
do_root g e keeps i n d holds =
    let row = row_renamed e keeps i in
    let a : act (row_of (renamed e i)) d ≡ act (row_of i) d = ap (λ (r : Row). act r d) row ∙ act_root e d holds (row_of i) in
    let c : is_call (row_of (renamed e i)) ≡ is_call (row_of i) = ap is_call row ∙ call_rooted e (row_of i) in
    let os : List Operand = map (renamed_operand e) i.operands in
    let one : with_core (numbered g.sees_pointer (is_call (row_of (renamed e i))) n os) (act (row_of (renamed e i)) d) ≡
    with_core (numbered g.sees_pointer (is_call (row_of i)) n os) (act (row_of i) d) = λ j. with_core (numbered g.sees_pointer (c j) n os) (a j) in
    one ∙ (λ j. with_core (λ (z : Core). numbered_same e g.sees_pointer (is_call (row_of i)) n i.operands z j) (act (row_of i) d))
