-- Which places have which known constant values along a block.
use Rattle.std.specs.Prelude.{ℕ, zero, suc, cond, nat_eq, Option, Some, None}
use Rattle.rv64_instr.specs.declared.place.Place.{Place}
use Rattle.rv64_instr.specs.declared.place.Place.TheVariants.{Register, Slot, Const}
use Rattle.rv64_instr.specs.LocationEffects.{defines_of}
use Rattle.rv64_instr.specs.Row.{Row, row_of}
use Rattle.rv64_instr.specs.View.{Literal, Write, SetsRegister, SetsSlot, write_of}
use Rattle.mir_func.specs.declared.item.ItemKind.{ItemKind}
use Rattle.mir_func.specs.declared.item.ItemKind.TheVariants.{Code, Mark, Phi}

-- the known values of places, as numbers modulo 2^64
abbrev pub Known : Type 0
Known = Place → Option ℕ

-- no value is known, as at a block's start
abbrev pub nothing_known : Known
nothing_known x = None

-- the known values without those of the places that the row sets; a call sets sixteen registers, and the slots that it passes
abbrev pub forgotten : Row → Known → Known
forgotten row known x = cond (defines_of row x) None (known x)

-- the known value of a register; x0 is 0
abbrev pub number_in : Known → ℕ → Option ℕ
number_in known zero = Some 0
number_in known (suc r) = known (Register (suc r))

-- the register's known value is replaced, or is unknown now if there is none
abbrev pub with_register : ℕ → Option ℕ → Known → Known
with_register r n known (Register q) = cond (nat_eq r q) n (known (Register q))
with_register r n known (Slot s) = known (Slot s)
with_register r n known (Const c) = known (Const c)

-- the slot's known value is replaced, or is unknown now if there is none
abbrev pub with_slot : ℕ → Option ℕ → Known → Known
with_slot s n known (Register q) = known (Register q)
with_slot s n known (Slot t) = cond (nat_eq s t) n (known (Slot t))
with_slot s n known (Const c) = known (Const c)

-- with the value of a register that is set to a number, except x0
abbrev pub with_literal : (rd n : ℕ) → Known → Known
with_literal zero n known = known
with_literal (suc rd) n known = with_register (suc rd) (Some n) known

-- with the value of what is set, if it is known
abbrev pub with_write : Write → Known → Known
with_write (SetsRegister rd (Literal n)) known = with_literal rd n known
with_write (SetsSlot s rs) known = with_slot s (number_in known rs) known
with_write _ known = known

-- the known values after a row, once those of what it sets are removed: a constant definition adds the value of its
-- register, except x0, and a store into a slot adds that of the slot, if the stored value is known
abbrev pub learned : Row → Known → Known
learned row known = with_write (write_of row) known

-- the known values after an item; debug items change nothing
abbrev pub known_past : ItemKind → Known → Known
known_past (Code i k) known = learned (row_of i) (forgotten (row_of i) known)
known_past (Mark v m) known = known
known_past (Phi p k) known = known
