-- What a word does, by the rows of instructions.
use Rattle.std.specs.Prelude.{ℕ, zero, suc, ◌+◌, ◌%◌, ◌^◌, ℤ, pos, ◌*ℤ◌}
use Rattle.rv64_instr.specs.declared.op.LoadOp.{LoadOp}
use Rattle.rv64_instr.specs.declared.op.LoadOp.TheVariants.{Ld}
use Rattle.rv64_instr.specs.declared.op.StoreOp.{StoreOp}
use Rattle.rv64_instr.specs.declared.op.StoreOp.TheVariants.{Sd}
use Rattle.rv64_instr.specs.Row.{Input, Content, Number, PartOf, Base, PointedBy, ObjectAt, BesidePart}
use Rattle.rv64_instr.specs.declared.op.RegisterOp.{RegisterOp}
use Rattle.rv64_instr.specs.declared.symbol.Half.TheVariants.{Upper, Lower}
use Rattle.rv64_instr.specs.Arithmetic.{word, extend32}
use Rattle.rv64_instr.specs.Linked.{immediate_value}
use Rattle.rv64_instr.specs.Row as row
use Rattle.rv64_instr.specs.Row.{Row, Fixes, Moves, Sets, Addresses, Loads, Stores, LoadsSlot, StoresSlot, Branches}
use Rattle.rv64_instr.specs.Row.{Jumps, Calls, Returns, Unfit, Callee, Named, Held, Way, Back, Tail, Never}
use Rattle.rv64_word.specs.declared.machine_op.MachineOp.{MachineOp}
use Rattle.rv64_word.specs.declared.word_op.WordOp.{WordOp}
use Rattle.rv64_word.specs.declared.word_op.WordOp.TheVariants.{Registers, Immediate, Lui, Branch, Load, Store, Jal, Jalr}

-- what a word does. Targets are addresses
pub data MachineRow : Type 0 where
  -- what the row of an instruction does. The row of a word names no slot and no stack object, and is neither a call nor a
  -- return
  Does : Row → MachineRow
  -- sets rd to the address of the next word, and jumps to the target
  Links : (rd target : ℕ) → MachineRow
  -- reads the base, sets rd to the address of the next word, and jumps to the base's content plus the offset, modulo
  -- 2^64, with bit 0 cleared
  LinksTo : (rd base offset : ℕ) → MachineRow

-- the address at an offset from another
abbrev pub at_offset : (address : ℕ) → ℤ → ℕ
at_offset address offset = (address + word offset) % 2 ^ 64

-- a jump that links to x0 is a plain jump
abbrev pub link_row : (rd target : ℕ) → MachineRow
link_row zero target = Does (Jumps target)
link_row (suc rd) target = Links (suc rd) target

-- the row of a word of an operation, at an address
abbrev pub row_as : WordOp → (address : ℕ) → MachineOp → MachineRow
row_as (Registers op) address m = Does (Sets m.rd op m.rs1 (Content m.rs2))
row_as (Immediate op) address m = Does (row.immediate_row op m.rd m.rs1 (word m.imm))
row_as Lui address m = Does (Fixes m.rd (extend32 (word (m.imm *ℤ pos 4096))))
row_as (Branch op) address m = Does (Branches op m.rs1 m.rs2 (at_offset address m.imm))
row_as (Load op) address m = Does (Loads m.rd op (PointedBy m.rs1) (word m.imm))
row_as (Store op) address m = Does (Stores op m.rs2 (PointedBy m.rs1) (word m.imm))
row_as Jal address m = link_row m.rd (at_offset address m.imm)
row_as Jalr address m = LinksTo m.rd m.rs1 (word m.imm)

-- the row of a word at an address
abbrev pub machine_row : (address : ℕ) → MachineOp → MachineRow
machine_row address m = row_as m.op address m

-- an offset from a stack object as one from x2, modulo 2^64; `object` is the object's own offset from x2
abbrev pub from_object : (object offset : ℕ) → ℕ
from_object object offset = (object + offset) % 2 ^ 64

-- an operation on registers; `part` is the immediate that stands for a half of an address
abbrev pub placed_sets : (part : ℤ) (rd : ℕ) → RegisterOp → (a : ℕ) → Input → Row
placed_sets part rd op a (Content r) = Sets rd op a (Content r)
placed_sets part rd op a (Number n) = Sets rd op a (Number n)
placed_sets part rd op a (PartOf Upper y) = Fixes rd (immediate_value Upper part)
placed_sets part rd op a (PartOf Lower y) = row.add_row rd a (immediate_value Lower part)

-- an offset from a base beside the lower half of an address, for which an immediate stands, modulo 2^64
abbrev pub from_part : (part : ℤ) (offset : ℕ) → ℕ
from_part part offset = (immediate_value Lower part + offset) % 2 ^ 64

-- a load, with a stack object as base replaced by x2 and the object's offset from it, and with an immediate for a half of an address
abbrev pub placed_load : (object : ℕ) (part : ℤ) (rd : ℕ) → LoadOp → Base → (offset : ℕ) → Row
placed_load object part rd op (PointedBy r) offset = Loads rd op (PointedBy r) offset
placed_load object part rd op (ObjectAt n) offset = Loads rd op (PointedBy 2) (from_object object offset)
placed_load object part rd op (BesidePart r y) offset = Loads rd op (PointedBy r) (from_part part offset)

-- a store, likewise
abbrev pub placed_store : (object : ℕ) (part : ℤ) → StoreOp → (rs : ℕ) → Base → (offset : ℕ) → Row
placed_store object part op rs (PointedBy r) offset = Stores op rs (PointedBy r) offset
placed_store object part op rs (ObjectAt n) offset = Stores op rs (PointedBy 2) (from_object object offset)
placed_store object part op rs (BesidePart r y) offset = Stores op rs (PointedBy r) (from_part part offset)

-- the jump to the address that a register holds, with this link register. A named callee has two words, neither of which has a row
abbrev pub placed_callee : (link : ℕ) → Callee → MachineRow
placed_callee link (Named name) = Does Unfit
placed_callee link (Held r) = LinksTo link r 0

-- control leaves by x1's content, or for a callee, which returns to x1's content or doesn't return
abbrev pub placed_way : Way Callee → MachineRow
placed_way Back = LinksTo 0 1 0
placed_way (Tail callee) = placed_callee 0 callee
placed_way (Never callee) = placed_callee 1 callee

-- the row of an instruction's word: a branch's target is an address, a stack object is at an offset from x2, a frame slot's number is its offset
-- from x2, and an immediate stands for a half of an address
abbrev pub placed : (target object : ℕ) (part : ℤ) → Row → MachineRow
placed target object part (Fixes rd n) = Does (Fixes rd n)
placed target object part (Moves rd rs) = Does (Moves rd rs)
placed target object part (Sets rd op a b) = Does (placed_sets part rd op a b)
placed target object part (Addresses rd n offset) = Does (row.add_row rd 2 (from_object object offset))
placed target object part (Loads rd op base offset) = Does (placed_load object part rd op base offset)
placed target object part (Stores op rs base offset) = Does (placed_store object part op rs base offset)
placed target object part (LoadsSlot rd n) = Does (Loads rd Ld (PointedBy 2) (word (pos n)))
placed target object part (StoresSlot rs n) = Does (Stores Sd rs (PointedBy 2) (word (pos n)))
placed target object part (Branches op a b block) = Does (Branches op a b target)
placed target object part (Jumps block) = Does (Jumps target)
placed target object part (Calls call) = placed_callee 1 call.callee
placed target object part (Returns ending) = placed_way ending.way
placed target object part Unfit = Does Unfit
