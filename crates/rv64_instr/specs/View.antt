-- The decoded view of a row: what it sets, which memory it accesses, and its class. What asks only one of these goes by the view, and doesn't name
-- the rows. Where control goes from a row is `row_exit` of `mir_func`.
use Rattle.std.specs.Prelude.{ℕ, List}
use Rattle.rv64_instr.specs.Row.{Base}
use Rattle.rv64_instr.specs.Arithmetic.{load_width, store_width}
use Rattle.rv64_instr.specs.Row.{Row, Fixes, Moves, Sets, Addresses, Loads, Stores, LoadsSlot, StoresSlot, Branches, Jumps, Calls, Returns, Unfit}

-- the value that a register is set to
pub data Value : Type 0 where
  -- a number
  Literal : (n : ℕ) → Value
  -- the content of a register or of a frame slot, unchanged
  OfRegister : (rs : ℕ) → Value
  OfSlot : (n : ℕ) → Value
  -- a result that is computed or loaded
  Computed : Value

-- what is set: nothing, a register, a frame slot to a register's content, or by a call the caller-saved registers, and the slots that
-- it passes, which are the callee's: they are unwritten after it
pub data Write : Type 0 where
  SetsNothing : Write
  SetsRegister : (rd : ℕ) (value : Value) → Write
  SetsSlot : (n rs : ℕ) → Write
  Clobbers : (outgoing : List ℕ) → Write

-- what a row sets
abbrev pub write_of : Row → Write
write_of (Fixes rd n) = SetsRegister rd (Literal n)
write_of (Moves rd rs) = SetsRegister rd (OfRegister rs)
write_of (Sets rd op a b) = SetsRegister rd Computed
write_of (Addresses rd n offset) = SetsRegister rd Computed
write_of (Loads rd op base offset) = SetsRegister rd Computed
write_of (Stores op rs base offset) = SetsNothing
write_of (LoadsSlot rd n) = SetsRegister rd (OfSlot n)
write_of (StoresSlot rs n) = SetsSlot n rs
write_of (Branches op a b target) = SetsNothing
write_of (Jumps target) = SetsNothing
write_of (Calls call) = Clobbers call.outgoing
write_of (Returns ending) = SetsNothing
write_of Unfit = SetsNothing

-- what is accessed: nothing, a frame slot, `width` bytes of memory at a base plus an offset, or nothing but the address of a stack object plus an
-- offset is formed
pub data Access : Type 0 where
  NoAccess : Access
  SlotAccess : (n : ℕ) → Access
  MemoryAccess : (base : Base) (offset width : ℕ) → Access
  ObjectAddress : (n offset : ℕ) → Access

-- what a row accesses
abbrev pub access_of : Row → Access
access_of (Fixes rd n) = NoAccess
access_of (Moves rd rs) = NoAccess
access_of (Sets rd op a b) = NoAccess
access_of (Addresses rd n offset) = ObjectAddress n offset
access_of (Loads rd op base offset) = MemoryAccess base offset (load_width op)
access_of (Stores op rs base offset) = MemoryAccess base offset (store_width op)
access_of (LoadsSlot rd n) = SlotAccess n
access_of (StoresSlot rs n) = SlotAccess n
access_of (Branches op a b target) = NoAccess
access_of (Jumps target) = NoAccess
access_of (Calls call) = NoAccess
access_of (Returns ending) = NoAccess
access_of Unfit = NoAccess

-- classes of instructions. A kept instruction keeps its class
pub data Class : Type 0 where
  Branch : Class
  Call : Class
  Return : Class
  Store : Class
  Plain : Class
  Odd : Class

-- the class of a row. A store to a spill slot is plain, not a store to memory
abbrev pub class_of : Row → Class
class_of (Branches op a b target) = Branch
class_of (Jumps target) = Branch
class_of (Calls call) = Call
class_of (Returns ending) = Return
class_of (Stores op rs base offset) = Store
class_of (Fixes rd n) = Plain
class_of (Moves rd rs) = Plain
class_of (Sets rd op a b) = Plain
class_of (Addresses rd n offset) = Plain
class_of (Loads rd op base offset) = Plain
class_of (LoadsSlot rd n) = Plain
class_of (StoresSlot rs n) = Plain
class_of Unfit = Odd
