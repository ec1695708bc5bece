-- The locations that an instruction sets, reads and moves, by its row. An immediate and a stack object are none.
use Rattle.std.specs.Prelude.{ℕ, zero, suc, ℤ, Bool, true, false, ◌||◌, ◌&&◌, List, [], ◌∷◌, Option, Some, None, nat_eq}
use Rattle.std.specs.List.{list_any}
use Rattle.rv64_instr.specs.declared.operand.Operand.{Operand}
use Rattle.rv64_instr.specs.declared.operand.Operand.TheVariants.{ImplicitUse, Outgoing, GlobalRegisters}
use Rattle.rv64_instr.specs.declared.place.Place.{Place}
use Rattle.rv64_instr.specs.declared.place.Place.TheVariants.{Register, Slot, Const}
use Rattle.rv64_instr.specs.declared.effects.Effect.{Effect}
use Rattle.rv64_instr.specs.Instruction.{Instruction}
use Rattle.rv64_instr.specs.Arithmetic.{signed}
use Rattle.rv64_instr.specs.declared.symbol.LinkedAddress.{LinkedAddress}
use Rattle.rv64_instr.specs.declared.symbol.Half.{Half}
use Rattle.rv64_instr.specs.declared.symbol.Half.TheVariants.{Lower}
use Rattle.rv64_instr.specs.Row.{Input, Content, Number, PartOf, Base, PointedBy, ObjectAt, BesidePart}
use Rattle.rv64_instr.specs.Row.{Row, Fixes, Moves, Sets, Addresses, Loads, Stores, LoadsSlot, StoresSlot, Branches, Jumps}
use Rattle.rv64_instr.specs.Row.{Calls, Returns, Unfit, row_of, Callee, Named, Held, Way, Back, Tail, Never}
use Rattle.rv64_instr.specs.View.{Literal, OfRegister, OfSlot, Write, SetsNothing, SetsRegister, SetsSlot, Clobbers, write_of}
use Rattle.rv64_instr.specs.View.{Access, NoAccess, SlotAccess, MemoryAccess, ObjectAddress, access_of}
use Rattle.rv64_instr.specs.View.{Class, Call, Return, Plain, Odd, class_of}
use Rattle.rv64_instr.specs.DefsAndUses.{sets}

-- the location that a definition of a register sets: none for x0, whose writes are dropped
abbrev pub place_set : ℕ → Option Place
place_set zero = None
place_set (suc r) = Some (Register (suc r))

-- the one location that a write sets. A call has none here, but sets the caller-saved registers and the slots that it passes
abbrev pub location_set : Write → Option Place
location_set SetsNothing = None
location_set (SetsRegister rd value) = place_set rd
location_set (SetsSlot n rs) = Some (Slot n)
location_set (Clobbers outgoing) = None

-- the one location that it sets
abbrev pub set_by : Row → Option Place
set_by row = location_set (write_of row)

-- the location that an input is read from
abbrev pub input_place : Input → Option Place
input_place (Content r) = Some (Register r)
input_place (Number n) = None
input_place (PartOf half y) = None

-- the location that an address's base is read from: none for a stack object
abbrev pub base_place : Base → Option Place
base_place (PointedBy r) = Some (Register r)
base_place (ObjectAt n) = None
base_place (BesidePart r y) = Some (Register r)

-- the location that a callee's address is read from: none of a name's
abbrev pub callee_place : Callee → Option Place
callee_place (Named name) = None
callee_place (Held r) = Some (Register r)

-- the first location that it reads by explicit operands, in text order. A constant definition reads none
abbrev pub first_use : Row → Option Place
first_use (Fixes rd n) = None
first_use (Moves rd rs) = Some (Register rs)
first_use (Sets rd op a b) = Some (Register a)
first_use (Addresses rd n offset) = None
first_use (Loads rd op base offset) = base_place base
first_use (Stores op rs base offset) = Some (Register rs)
first_use (LoadsSlot rd n) = Some (Slot n)
first_use (StoresSlot rs n) = Some (Register rs)
first_use (Branches op a b target) = Some (Register a)
first_use (Jumps target) = None
first_use (Calls call) = callee_place call.callee
first_use (Returns ending) = None
first_use Unfit = None

-- the second such location
abbrev pub second_use : Row → Option Place
second_use (Fixes rd n) = None
second_use (Moves rd rs) = None
second_use (Sets rd op a b) = input_place b
second_use (Addresses rd n offset) = None
second_use (Loads rd op base offset) = None
second_use (Stores op rs base offset) = base_place base
second_use (LoadsSlot rd n) = None
second_use (StoresSlot rs n) = None
second_use (Branches op a b target) = Some (Register b)
second_use (Jumps target) = None
second_use (Calls call) = None
second_use (Returns ending) = None
second_use Unfit = None

-- the location that a copy moves: none if it copies into x0
abbrev pub moved_into : (rd rs : ℕ) → Option Place
moved_into zero rs = None
moved_into (suc rd) rs = Some (Register rs)

-- the location whose content a write moves unchanged: none if it copies into x0
abbrev pub location_moved : Write → Option Place
location_moved (SetsRegister rd (OfRegister rs)) = moved_into rd rs
location_moved (SetsRegister rd (OfSlot n)) = Some (Slot n)
location_moved (SetsSlot n rs) = Some (Register rs)
location_moved _ = None

-- the location whose content it moves unchanged: of slot loads, slot stores, and copies except those into x0
abbrev pub moved_by : Row → Option Place
moved_by row = location_moved (write_of row)

-- the number that a write sets a register to, also if that is x0
abbrev pub literal_set : Write → Option ℕ
literal_set (SetsRegister rd (Literal n)) = Some n
literal_set _ = None

-- the number as a signed one
abbrev pub as_signed : Option ℕ → Option ℤ
as_signed None = None
as_signed (Some n) = Some (signed n)

-- the number that a constant definition sets, also if it sets x0
abbrev pub constant_of : Row → Option ℤ
constant_of row = as_signed (literal_set (write_of row))

-- code of this class is no store to memory, branch, call or return
abbrev pub is_pure_class : Class → Bool
is_pure_class Plain = true
is_pure_class Odd = true
is_pure_class _ = false

-- no store to memory, no branch, call or return: if it goes on, it sets at most its one location. A load may stop on a frame fault
-- instead
abbrev pub is_pure : Row → Bool
is_pure row = is_pure_class (class_of row)

-- the class of calls
abbrev pub is_call_class : Class → Bool
is_call_class Call = true
is_call_class _ = false

-- a call (LLVM: `PseudoCALL`)
abbrev pub is_call : Row → Bool
is_call row = is_call_class (class_of row)

-- the callee is that of a name
abbrev pub is_named : Callee → Bool
is_named (Named name) = true
is_named (Held r) = false

abbrev pub way_has_site : Way Callee → Bool
way_has_site Back = false
way_has_site (Tail callee) = is_named callee
way_has_site (Never callee) = is_named callee

-- it calls a function of a name, or leaves for one: it has two words, which get the function's address when the program is linked
abbrev pub has_site : Row → Bool
has_site (Calls call) = is_named call.callee
has_site (Returns ending) = way_has_site ending.way
has_site _ = false

-- an instruction's dataflow facts, as passes need them, all by its row
abbrev pub effect_of : Row → Effect
effect_of row = record {
  def = set_by row;
  uses = first_use row ∷ second_use row ∷ [];
  moved_from = moved_by row;
  constant = constant_of row;
  pure = is_pure row;
  call = is_call row;
}

-- the frame slot that a write sets a register from
abbrev pub slot_moved : Write → Option ℕ
slot_moved (SetsRegister rd (OfSlot n)) = Some n
slot_moved _ = None

-- the frame slot that it reads
abbrev pub slot_read : Row → Option ℕ
slot_read row = slot_moved (write_of row)

-- the frame slot that a write sets
abbrev pub slot_written : Write → Option ℕ
slot_written (SetsSlot n rs) = Some n
slot_written _ = None

-- the frame slot that it sets
abbrev pub slot_set : Row → Option ℕ
slot_set row = slot_written (write_of row)

-- it sets a frame slot
abbrev pub SetsASlot : Write → Type 0
SetsASlot (SetsSlot n rs) = Unit {0}
SetsASlot _ = ⊥

-- it stores into a frame slot
abbrev pub IsSlotStore : Row → Type 0
IsSlotStore row = SetsASlot (write_of row)

-- the stack object that is a base
abbrev pub base_object : Base → Option ℕ
base_object (PointedBy r) = None
base_object (ObjectAt n) = Some n
base_object (BesidePart r y) = None

-- the stack object that an access names
abbrev pub object_accessed : Access → Option ℕ
object_accessed NoAccess = None
object_accessed (SlotAccess n) = None
object_accessed (MemoryAccess base offset width) = base_object base
object_accessed (ObjectAddress n offset) = Some n

-- the stack object that it names
abbrev pub object_named : Row → Option ℕ
object_named row = object_accessed (access_of row)

-- the half of an address that is known when the program is linked, in an input or a base
abbrev pub input_part : Input → Option (Half × LinkedAddress)
input_part (Content r) = None
input_part (Number n) = None
input_part (PartOf half y) = Some (half, y)

abbrev pub base_part : Base → Option (Half × LinkedAddress)
base_part (PointedBy r) = None
base_part (ObjectAt n) = None
base_part (BesidePart r y) = Some (Lower, y)

-- the half of an address that it names
abbrev pub part_named : Row → Option (Half × LinkedAddress)
part_named (Fixes rd n) = None
part_named (Moves rd rs) = None
part_named (Sets rd op a b) = input_part b
part_named (Addresses rd n offset) = None
part_named (Loads rd op base offset) = base_part base
part_named (Stores op rs base offset) = base_part base
part_named (LoadsSlot rd n) = None
part_named (StoresSlot rs n) = None
part_named (Branches op a b target) = None
part_named (Jumps target) = None
part_named (Calls call) = None
part_named (Returns ending) = None
part_named Unfit = None

-- the address of such a half
abbrev pub part_address : Option (Half × LinkedAddress) → Option LinkedAddress
part_address None = None
part_address (Some p) = Some p.1

-- which half it is
abbrev pub part_half : Option (Half × LinkedAddress) → Option Half
part_half None = None
part_half (Some p) = Some p.0

-- the address of which it names a half
abbrev pub address_named : Row → Option LinkedAddress
address_named row = part_address (part_named row)

-- which half of an address it names
abbrev pub half_named : Row → Option Half
half_named row = part_half (part_named row)

-- there is a frame slot, and it has this number
abbrev pub names_slot : Option ℕ → ℕ → Bool
names_slot (Some m) n = nat_eq m n
names_slot None n = false

-- the registers that callers and callees may share as global variables (RISC-V ELF psABI, "Integer Register Convention": gp and tp, which a call
-- neither saves nor passes)
abbrev pub is_global_register : ℕ → Bool
is_global_register r = nat_eq r 3 || nat_eq r 4

-- the operand is an implicit use of the register
abbrev pub is_implicit_use : ℕ → Operand → Bool
is_implicit_use r (ImplicitUse s) = nat_eq s r
is_implicit_use r GlobalRegisters = is_global_register r
is_implicit_use r _ = false

-- the operand passes the frame slot to a callee
abbrev pub is_outgoing : ℕ → Operand → Bool
is_outgoing n (Outgoing m) = nat_eq n m
is_outgoing n _ = false

-- the location is a frame slot that some operand passes to a callee
abbrev pub is_passed : Place → List Operand → Bool
is_passed (Register r) operands = false
is_passed (Slot n) operands = list_any (is_outgoing n) operands
is_passed (Const c) operands = false

-- there is a location, and it is the register
abbrev pub is_register : ℕ → Option Place → Bool
is_register r (Some (Register s)) = nat_eq r s
is_register r _ = false

-- the implicit uses of code of this class are reads
abbrev pub reads_implicit_uses : Class → Bool
reads_implicit_uses Call = true
reads_implicit_uses Return = true
reads_implicit_uses _ = false

-- its implicit uses are reads: only those of a call and a return are
abbrev pub has_implicit_uses : Row → Bool
has_implicit_uses row = reads_implicit_uses (class_of row)

-- it reads the location: a register by an explicit operand, or by an implicit one of a call or a return; or a slot, which a call may pass
abbrev pub uses_of : Instruction → Place → Bool
uses_of i (Register r) = is_register r (first_use (row_of i)) || is_register r (second_use (row_of i))
    || (has_implicit_uses (row_of i) && list_any (is_implicit_use r) i.operands)
uses_of i (Slot n) = names_slot (slot_read (row_of i)) n || (has_implicit_uses (row_of i) && list_any (is_outgoing n) i.operands)
uses_of i (Const c) = false

-- a write sets the frame slot: those that a call passes are unwritten after it
abbrev pub sets_slot : Write → ℕ → Bool
sets_slot (SetsSlot m rs) n = nat_eq m n
sets_slot (Clobbers outgoing) n = list_any (nat_eq n) outgoing
sets_slot _ n = false

-- it sets the location; a definition of x0 counts, though its write is dropped. A call sets the caller-saved registers and the slots that it
-- passes
abbrev pub defines_of : Row → Place → Bool
defines_of row (Register r) = list_any (nat_eq r) (sets row)
defines_of row (Slot n) = sets_slot (write_of row) n
defines_of row (Const c) = false
