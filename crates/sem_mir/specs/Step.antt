-- The step function of functions: one item, or a block's end, at a time.
use Rattle.std.specs.Prelude.{ℕ, ◌+◌, ◌-◌, ◌%◌, ◌^◌, zero, suc, List, [], ◌∷◌, ◌++◌, map, Option, Some, None, Bool, true, false, not, ◌||◌, cond}
use Rattle.std.specs.Prelude.{nat_eq, is_some, slice_get}
use Rattle.std.specs.List.{list_all}
use Rattle.mir_func.specs.rv64_instr.declared.op.LoadOp.{LoadOp}
use Rattle.mir_func.specs.rv64_instr.declared.op.StoreOp.{StoreOp}
use Rattle.mir_func.specs.rv64_instr.declared.operand.Operand.{Operand}
use Rattle.mir_func.specs.rv64_instr.declared.operand.Operand.TheVariants.{Def, ImplicitDef}
use Rattle.mir_func.specs.rv64_instr.declared.place.Place.{Place}
use Rattle.mir_func.specs.rv64_instr.declared.place.Place.TheVariants.{Register, Slot, Const}
use Rattle.mir_func.specs.rv64_instr.declared.symbol.Half.TheVariants.{Lower}
use Rattle.mir_func.specs.rv64_instr.Linked.{linked_value}
use Rattle.mir_func.specs.rv64_instr.Arithmetic.{word, computed, taken, load_width, store_width, extended}
use Rattle.mir_func.specs.rv64_instr.Row.{Input, Content, Number, PartOf}
use Rattle.mir_func.specs.rv64_instr.Row.{Base, PointedBy, ObjectAt, BesidePart}
use Rattle.mir_func.specs.rv64_instr.declared.start.CallTarget.{CallTarget}
use Rattle.mir_func.specs.rv64_instr.declared.start.CallTarget.TheVariants.{Function, Address}
use Rattle.mir_func.specs.rv64_instr.Row.{Callee, Named, Held, Way, Back, Tail, Never, Ending, CallSite}
use Rattle.mir_func.specs.rv64_instr.Row.{Row, Fixes, Moves, Sets, Addresses, Loads, Stores, LoadsSlot, StoresSlot, Branches, Jumps, Calls, Returns, Unfit, row_of}
use Rattle.mir_func.specs.rv64_instr.DefsAndUses.{caller_saved, reads}
use Rattle.mir_func.specs.rv64_instr.LocationEffects.{is_call}
use Rattle.mir_func.specs.declared.debug_substitution.OperandPair.{OperandPair}
use Rattle.mir_func.specs.declared.position.Pos.{Pos}
use Rattle.mir_func.specs.declared.variable.VarId.{VarId}
use Rattle.mir_func.specs.declared.variable.MarkValue.{MarkValue}
use Rattle.mir_func.specs.declared.variable.MarkValue.TheVariants.{Nothing, Constant, At, Pair}
use Rattle.mir_func.specs.declared.item.ItemKind.{ItemKind}
use Rattle.mir_func.specs.declared.item.ItemKind.TheVariants.{Code, Mark, Phi}
use Rattle.mir_func.specs.Variables.{part_value}
use Rattle.mir_func.specs.Graph.{Fetch, Here, EndOfBlock, Outside, Program, below, block_start}
use Rattle.sem_mir.specs.State.{Called, Wrote, RunResult, Reply, Core, State, updated, without, content, put, put_all, spelled, low_bytes, stored, written}
use Rattle.sem_mir.specs.State.{touches_frame}
use Rattle.sem_mir.specs.State.{writes_frame}

-- the outcome of an item
pub data Outcome : Type 0 where
  -- control goes on to the item below
  Falls : Core → Outcome
  -- control goes to a block
  Goes : (target : ℕ) → Core → Outcome
  -- the run ends
  Gives : (result : RunResult) → Outcome
  -- the run stops on a frame fault
  Traps : Outcome
  -- the run waits, since no reply is left for its call
  Asks : Outcome
  -- the instruction is invalid
  Breaks : Outcome

-- a register's content, or 0 if it isn't written
abbrev pub or_zero : Option ℕ → ℕ
or_zero None = 0
or_zero (Some n) = n

-- a register's content, or 0 if it isn't written
abbrev pub read : Core → ℕ → ℕ
read s r = or_zero (content s.regs r)

-- the value of an operation's second input: a register's content, the number, or the value of a half of an address, by the addresses of symbols
abbrev pub input_value : Core → Input → ℕ
input_value s (Content r) = read s r
input_value s (Number n) = n
input_value s (PartOf half y) = linked_value s.symbols half y

-- the address of a stack object, modulo 2^64
abbrev pub object_address : Core → ℕ → ℕ
object_address s n = (s.entry + (2 ^ 64 - s.area) + s.objects n) % 2 ^ 64

-- the value of an address's base: a register's content, the address of a stack object's first byte, or a register's content plus the value of the
-- lower half of an address
abbrev pub base_value : Core → Base → ℕ
base_value s (PointedBy r) = read s r
base_value s (ObjectAt n) = object_address s n
base_value s (BesidePart r y) = (read s r + linked_value s.symbols Lower y) % 2 ^ 64

-- the effective address of an access: base plus offset, modulo 2^64
abbrev pub address_at : Core → Base → (offset : ℕ) → ℕ
address_at s base offset = (base_value s base + offset) % 2 ^ 64

-- an access of n bytes at an address touches the frame. An access by a stack object never counts
abbrev pub is_fault : Base → Core → (address n : ℕ) → Bool
is_fault (PointedBy r) s a n = touches_frame s.entry s.area a n
is_fault (ObjectAt m) s a n = false
is_fault (BesidePart r y) s a n = touches_frame s.entry s.area a n

-- what a callee is when the call is made: the function of its name, or what its register holds
abbrev pub called_at : Core → Callee → CallTarget
called_at s (Named name) = Function name
called_at s (Held r) = Address (read s r)

-- the way on which control leaves the function, when it does
abbrev pub way_at : Core → Way Callee → Way CallTarget
way_at s Back = Back
way_at s (Tail callee) = Tail (called_at s callee)
way_at s (Never callee) = Never (called_at s callee)

-- the result of a run that ends so
abbrev pub result_at : Core → Ending Callee → RunResult
result_at s ending = record { way = way_at s ending.way; values = map (read s) ending.values }

-- a register set, all else unchanged: x0 drops the write
abbrev pub set_register : (rd v : ℕ) → Core → Core
set_register rd v s = record s { regs = put rd v s.regs }

-- a slot's content, or 0 if it isn't written
abbrev pub slot_value : Core → ℕ → ℕ
slot_value s n = or_zero (s.slots n)

-- the values that a call passes: the contents of its registers, and then of its slots
abbrev pub passed : Core → CallSite → List ℕ
passed s call = map (read s) call.args ++ map (slot_value s) call.outgoing

-- the slots that a call passes are written
abbrev pub are_passed : Core → (outgoing : List ℕ) → Bool
are_passed s outgoing = list_all (λ n. is_some (s.slots n)) outgoing

-- a call that passes these slots faults at the reply: a slot isn't written, or the reply writes to the frame
abbrev pub call_faults : Core → (outgoing : List ℕ) → Reply → Bool
call_faults s outgoing r = not (are_passed s outgoing) || writes_frame s.entry s.area r.writes

-- a call with the next reply, that passes these slots. The callee owns them, so they are unwritten after it. Without a reply the run waits
abbrev pub exec_external_call : CallTarget → (args outgoing : List ℕ) → Core → List Reply → Outcome
exec_external_call target args outgoing s [] = Asks
exec_external_call target args outgoing s (r ∷ rest) = cond (call_faults s outgoing r) Traps (Falls (record s {
  regs = put_all caller_saved r.regs s.regs;
  slots = without outgoing s.slots;
  memory = written s.memory r.writes;
  script = rest;
  events = Called target args ∷ s.events;
}))

-- a load from a spill slot. A slot that isn't written is a frame fault
abbrev pub slot_loaded : ℕ → Core → Option ℕ → Outcome
slot_loaded rd s None = Traps
slot_loaded rd s (Some v) = Falls (set_register rd v s)

-- a load: a frame fault, or rd gets the bytes from the address on, extended as the opcode says
abbrev pub loaded : (rd : ℕ) → LoadOp → Base → (address : ℕ) → Core → Outcome
loaded rd op base a s =
    cond (is_fault base s a (load_width op)) Traps (Falls (set_register rd (extended op (spelled s.memory a (load_width op))) s))

-- bytes written to memory from an address on, with the event of the store
abbrev pub saved : (address : ℕ) → List ℕ → Core → Core
saved a bytes s = record s { memory = stored s.memory a bytes; events = Wrote a bytes ∷ s.events }

-- a store: a frame fault, or the low bytes of v are written to memory, as many as the opcode has
abbrev pub put_in_memory : StoreOp → Base → (address v : ℕ) → Core → Outcome
put_in_memory op base a v s = cond (is_fault base s a (store_width op)) Traps (Falls (saved a (low_bytes (store_width op) v) s))

-- the outcome of an instruction of this row, if all registers that it reads are written
unfoldable pub does : Row → Core → Outcome
does (Fixes rd n) s = Falls (set_register rd n s)
does (Moves rd rs) s = Falls (set_register rd (read s rs) s)
does (Sets rd op a b) s = Falls (set_register rd (computed op (read s a) (input_value s b)) s)
does (Addresses rd n offset) s = Falls (set_register rd (address_at s (ObjectAt n) offset) s)
does (Loads rd op base offset) s = loaded rd op base (address_at s base offset) s
does (Stores op rs base offset) s = put_in_memory op base (address_at s base offset) (read s rs) s
does (LoadsSlot rd n) s = slot_loaded rd s (s.slots n)
does (StoresSlot rs n) s = Falls (record s { slots = updated n (Some (read s rs)) s.slots })
does (Branches op a b target) s = cond (taken op (read s a) (read s b)) (Goes target s) (Falls s)
does (Jumps target) s = Goes target s
does (Calls call) s = exec_external_call (called_at s call.callee) (passed s call) call.outgoing s s.script
does (Returns ending) s = Gives (result_at s ending)
does Unfit s = Breaks

-- the registers are written
abbrev pub are_written : Core → List ℕ → Bool
are_written s rs = list_all (λ r. is_some (content s.regs r)) rs

-- the outcome of an instruction: one that reads an unwritten register stops as on a frame fault
unfoldable pub act : Row → Core → Outcome
act r s = cond (are_written s (reads r)) (does r s) Traps

-- a register's content as debug items see it: that of x2 only if the flag is set
abbrev pub seen : Bool → ℕ → Core → Option ℕ
seen true r s = content s.regs r
seen false r s = cond (nat_eq r 2) None (content s.regs r)

-- the register that an operand defines: an implicit definition defines on calls alone
abbrev pub defined : Bool → Option Operand → Option ℕ
defined call (Some (Def r)) = Some r
defined true (Some (ImplicitDef r)) = Some r
defined call _ = None

-- a pair's value after code with its number: the content of the register that its operand defines, or the old
-- one
abbrev pub given : Bool → Option ℕ → Option ℕ → Core → Option ℕ
given sp None old s = old
given sp (Some r) old s = seen sp r s

-- code with a debug instruction number sets the pair of each operand that defines a register to the register's
-- new content; the other pairs stay
abbrev pub numbered : Bool → Bool → Option ℕ → List Operand → Core → Core
numbered sp call None operands s = s
numbered sp call (Some k) operands s = record s { pairs = updated k (λ o. given sp (defined call (slice_get operands o)) (s.pairs k o) s) s.pairs }

-- the outcome with its core changed, if the run goes on
abbrev pub with_core : (Core → Core) → Outcome → Outcome
with_core f (Falls c) = Falls (f c)
with_core f (Goes n c) = Goes n (f c)
with_core f (Gives v) = Gives v
with_core f Traps = Traps
with_core f Asks = Asks
with_core f Breaks = Breaks

-- the value that a DBG_PHI of a location reads: none for x2, in the source too
abbrev pub place_value : Option Place → Core → Option ℕ
place_value None s = None
place_value (Some (Register r)) s = seen false r s
place_value (Some (Slot n)) s = s.slots n
place_value (Some (Const c)) s = Some (word c)

-- the last value of the pair that a pair resolves to, or none if it doesn't resolve
abbrev pub pair_value : Option OperandPair → Core → Option ℕ
pair_value None s = None
pair_value (Some q) s = s.pairs q.number q.operand

-- the value of a debug value's operand (LLVM: `DBG_VALUE` of an immediate or a register, `DBG_INSTR_REF` of a
-- pair)
abbrev pub mark_value : Program → MarkValue → Core → Option ℕ
mark_value g Nothing s = None
mark_value g (Constant c) s = Some (word c)
mark_value g (At r) s = seen g.sees_pointer r s
mark_value g (Pair q) s = pair_value (g.resolve q) s

-- the value of a part of a variable: the low bytes of its operand's value
abbrev pub part_of : VarId → Option ℕ → Option ℕ
part_of v None = None
part_of v (Some x) = Some (part_value v x)

-- the outcome of an item
abbrev pub do_item : Program → ItemKind → Core → Outcome
do_item g (Code i k) s = with_core (numbered g.sees_pointer (is_call (row_of i)) k i.operands) (act (row_of i) s)
do_item g (Mark v m) s = Falls (record s { marks = (v, part_of v (mark_value g m s)) ∷ s.marks })
do_item g (Phi p k) s = Falls (record s { pairs = updated k (updated 0 (place_value p s) (s.pairs k)) s.pairs })

-- the outcome of what is at a position. From a block's end control goes to the next block
abbrev pub do_fetch : Program → Fetch → Core → Outcome
do_fetch g (Here i) s = do_item g i.kind s
do_fetch g (EndOfBlock k n) s = Goes n s
do_fetch g Outside s = Breaks

-- the result of a step: the next state, the end of the run, a frame fault, a call without a reply, or an invalid
-- instruction
pub data Next : Type 0 where
  Went : State → Next
  Returned : (result : RunResult) → Next
  Faulted : Next
  Waits : Next
  Lost : Next

-- the result of a step from this position, by its outcome
abbrev pub moved : (ℕ → ℕ) → Pos → Outcome → Next
moved enter p (Falls c) = Went (record { pos = below p; core = c })
moved enter p (Goes n c) = Went (record { pos = block_start (enter n); core = c })
moved enter p (Gives v) = Returned v
moved enter p Traps = Faulted
moved enter p Asks = Waits
moved enter p Breaks = Lost

-- one step: one item, debug items included, or a block's end
abbrev pub step : Program → State → Next
step g s = moved g.enter s.pos (do_fetch g (g.fetch s.pos) s.core)

-- k applied to the next state, or how the run ended already
abbrev pub after : Next → (State → Next) → Next
after (Went s) k = k s
after (Returned v) k = Returned v
after Faulted k = Faulted
after Waits k = Waits
after Lost k = Lost

-- n steps, or how the run ended before them
abbrev pub run : Program → ℕ → State → Next
run g zero s = Went s
run g (suc n) s = after (step g s) (run g n)
