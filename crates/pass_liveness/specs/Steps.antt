-- The parts of the backward liveness step over code.
use Rattle.std.specs.Prelude.{ℕ, List, Bool, false, nat_eq, Option, Some, None}
use Rattle.std.specs.List.{list_any}
use Rattle.rv64_instr.specs.declared.operand.Operand.{Operand}
use Rattle.rv64_instr.specs.declared.place.Place.{Place}
use Rattle.rv64_instr.specs.declared.place.Place.TheVariants.{Register, Slot, Const}
use Rattle.rv64_instr.specs.LocationEffects.{is_implicit_use}
use Rattle.rv64_instr.specs.Row.{Row}
use Rattle.rv64_instr.specs.View.{Write, SetsNothing, SetsRegister, SetsSlot, Clobbers, write_of}

-- the place that a write sets; x0 too. A call sets its registers and slots otherwise
abbrev pub place_written : Write → Option Place
place_written SetsNothing = None
place_written (SetsRegister rd value) = Some (Register rd)
place_written (SetsSlot n rs) = Some (Slot n)
place_written (Clobbers outgoing) = None

-- the place that the row sets, if it sets one by an explicit operand
abbrev pub place_defined : Row → Option Place
place_defined row = place_written (write_of row)

-- the place is one of these registers
abbrev pub is_among : Place → List ℕ → Bool
is_among (Register r) numbers = list_any (nat_eq r) numbers
is_among (Slot n) numbers = false
is_among (Const c) numbers = false

-- the place is a register that the operand reads implicitly
abbrev pub is_read : Place → Operand → Bool
is_read (Register r) operand = is_implicit_use r operand
is_read (Slot n) operand = false
is_read (Const c) operand = false

-- the place is a register that some operand reads implicitly
abbrev pub reads_implicitly : Place → List Operand → Bool
reads_implicitly (Register r) operands = list_any (is_implicit_use r) operands
reads_implicitly (Slot n) operands = false
reads_implicitly (Const c) operands = false
