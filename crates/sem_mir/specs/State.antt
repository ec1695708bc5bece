-- The state of a run: registers, spill slots, memory, and the debug history: values of pairs and of variables.
use Rattle.std.specs.Prelude.{◌≡◌, ◌<◌, length, All, ℕ, zero, suc, ◌+◌, ◌*◌, ◌/◌, ◌%◌, ◌^◌, List, [], ◌∷◌, Option, Some, None, Bool, false, cond, ◌&&◌, ◌||◌}
use Rattle.std.specs.Prelude.{nat_eq, nat_lt, nat_le}
use Rattle.std.specs.List.{list_any}
use Rattle.mir_func.specs.rv64_instr.declared.start.CallTarget.{CallTarget}
use Rattle.mir_func.specs.rv64_instr.Row.{Ending}
use Rattle.mir_func.specs.rv64_instr.declared.symbol.Symbol.{Symbol}
use Rattle.mir_func.specs.declared.position.Pos.{Pos}
use Rattle.mir_func.specs.declared.variable.VarId.{VarId}
use Rattle.mir_func.specs.Limits.{FRAME_ROOM}
use Rattle.mir_func.specs.Variables.{is_same, overlaps}

-- an observable event of a run
pub data Event : Type 0 where
  -- a call, with the contents of its argument registers, and then of the slots that it passes
  Called : (target : CallTarget) (args : List ℕ) → Event
  -- a store of bytes to memory, from the address on
  Wrote : (address : ℕ) (bytes : List ℕ) → Event

-- how a run ends: the way on which control leaves the function, and the values that it passes there
abbrev pub RunResult : Type 0
RunResult = Ending CallTarget

-- the effect of a call, given in advance: the contents of the caller-saved registers, ascending, the bytes that the callee
-- writes, in order, and the bytes that it leaves in what it owns of the frame, which are those below its caller's stack pointer
-- and those of the slots that it is passed: the machine alone has them
pub record Reply : Type 0 where
  pub regs : List ℕ
  pub writes : List (ℕ × ℕ)
  pub below : List (ℕ × ℕ)

-- the state of a run without its position
pub record Core : Type 0 where
  -- the content of x2 at entry
  pub entry : ℕ
  -- the size in bytes of the stack objects' area right below entry, and each object's offset from the area's lowest byte
  pub area : ℕ
  pub objects : ℕ → ℕ
  -- the address of each symbol. It is arbitrary, and no step changes it
  pub symbols : Symbol → ℕ
  -- each register's content. A virtual register is unwritten until it is set
  pub regs : ℕ → Option ℕ
  -- each spill slot's content, if it is written
  pub slots : ℕ → Option ℕ
  pub memory : ℕ → ℕ
  -- the replies to calls that are left
  pub script : List Reply
  -- the events so far, the newest first
  pub events : List Event
  -- the last value of each pair of a debug instruction number and an operand index
  pub pairs : ℕ → ℕ → Option ℕ
  -- the assignments of debug values so far, the newest first
  pub marks : List (VarId × Option ℕ)

-- a state of a run: the position that runs next, and all else
pub record State : Type 0 where
  pub pos : Pos
  pub core : Core

-- a mapping with one of its values changed
abbrev pub updated : {A : Type 0} → ℕ → A → (ℕ → A) → ℕ → A
updated k v f q = cond (nat_eq q k) v (f q)

-- a mapping of slots in which these have no value
abbrev pub without : {A : Type 0} → List ℕ → (ℕ → Option A) → ℕ → Option A
without ns f n = cond (list_any (nat_eq n) ns) None (f n)

-- the content of a register: x0 reads 0
abbrev pub content : (ℕ → Option ℕ) → ℕ → Option ℕ
content regs zero = Some 0
content regs (suc r) = regs (suc r)

-- a register set: x0 drops writes
abbrev pub put : ℕ → ℕ → (ℕ → Option ℕ) → ℕ → Option ℕ
put zero v regs = regs
put (suc r) v regs = updated (suc r) (Some v) regs

-- several registers set, in order: to 0 if no content is left
abbrev pub put_all : List ℕ → List ℕ → (ℕ → Option ℕ) → ℕ → Option ℕ
put_all [] vs regs = regs
put_all (r ∷ rs) [] regs = put_all rs [] (put r 0 regs)
put_all (r ∷ rs) (v ∷ vs) regs = put_all rs vs (put r v regs)

-- the number that n bytes of memory spell from an address on, little-endian. Addresses wrap at 64 bits
abbrev pub spelled : (ℕ → ℕ) → (address n : ℕ) → ℕ
spelled m a zero = 0
spelled m a (suc n) = m (a % 2 ^ 64) + 256 * spelled m (a + 1) n

-- the low n bytes of a number, little-endian
abbrev pub low_bytes : (n v : ℕ) → List ℕ
low_bytes zero v = []
low_bytes (suc n) v = (v % 256) ∷ low_bytes n (v / 256)

-- memory with bytes written from an address on
abbrev pub stored : (ℕ → ℕ) → ℕ → List ℕ → ℕ → ℕ
stored m a [] = m
stored m a (b ∷ bs) = stored (updated (a % 2 ^ 64) b m) (a + 1) bs

-- memory with bytes written, each at its address, in order
abbrev pub written : (ℕ → ℕ) → List (ℕ × ℕ) → ℕ → ℕ
written m [] = m
written m (w ∷ ws) = written (updated w.0 w.1 m) ws

-- one of the frame's bytes: the 2,048 bytes below the stack pointer at entry, except those of stack objects right below it
abbrev pub in_frame : (entry area address : ℕ) → Bool
in_frame entry area a = nat_le entry (a + FRAME_ROOM) && nat_lt (a + area) entry

-- one of n bytes from an address on is a byte of the frame
abbrev pub touches_frame : (entry area address n : ℕ) → Bool
touches_frame entry area a zero = false
touches_frame entry area a (suc n) = in_frame entry area (a % 2 ^ 64) || touches_frame entry area (a + 1) n

-- one of these writes, each an address and a byte, is to a byte of the frame
abbrev pub writes_frame : (entry area : ℕ) → List (ℕ × ℕ) → Bool
writes_frame entry area [] = false
writes_frame entry area (w ∷ ws) = in_frame entry area w.0 || writes_frame entry area ws

-- the value of a part of a variable by its newest assignment; none if it has no assignment, or if a part that overlaps it
-- was assigned later
abbrev pub assigned : {A : Type 0} → VarId → List (VarId × Option A) → Option A
assigned v [] = None
assigned v (m ∷ ms) = cond (is_same v m.0) m.1 (cond (overlaps v m.0) None (assigned v ms))

-- a valid reply to a call: sixteen registers' contents of 64 bits, and bytes at 64-bit addresses
pub record IsReply (r : Reply) : Type 0 where
  pub count : length r.regs ≡ 16
  pub regs : All (λ v. v < 2 ^ 64) r.regs
  pub writes : All (λ w. (w.0 < 2 ^ 64) × (w.1 < 256)) r.writes
  pub below : All (λ w. (w.0 < 2 ^ 64) × (w.1 < 256)) r.below

-- registers, slots and values have 64 bits, and memory has bytes
pub record IsInRange (s : Core) : Type 0 where
  pub regs : (r v : ℕ) → content s.regs r ≡ Some v → v < 2 ^ 64
  pub slots : (n v : ℕ) → s.slots n ≡ Some v → v < 2 ^ 64
  pub memory : (a : ℕ) → s.memory a < 256
  pub script : All IsReply s.script
  pub pairs : (k o v : ℕ) → s.pairs k o ≡ Some v → v < 2 ^ 64
  pub marks : (v : VarId) (x : ℕ) → assigned v s.marks ≡ Some x → x < 2 ^ 64
