-- Rematerialization of constants: a copy or slot load of a known constant becomes its definition.
use Rattle.std.specs.Prelude.{◌≡◌, ℕ, zero, suc, ◌/◌, ◌%◌, pos, List, [], ◌∷◌, map, filter, Option, Some, None, false, cond}
use Rattle.rv64_instr.specs.declared.op.Op.TheVariants.{Immediate, Lui}
use Rattle.rv64_instr.specs.declared.op.ImmediateOp.TheVariants.{Addi}
use Rattle.rv64_instr.specs.declared.operand.Operand.{Operand}
use Rattle.rv64_instr.specs.declared.operand.Operand.TheVariants.{Def, Use, Imm}
use Rattle.rv64_instr.specs.declared.place.Place.TheVariants.{Slot}
use Rattle.rv64_instr.specs.Arithmetic.{signed}
use Rattle.rv64_instr.specs.Form.{has_12_bits, is_implicit}
use Rattle.rv64_instr.specs.Instruction.{Instruction, is_volatile_load}
use Rattle.rv64_instr.specs.Row.{Row, row_of}
use Rattle.rv64_instr.specs.View.{OfRegister, OfSlot, Write, SetsRegister, write_of}
use Rattle.mir_func.specs.declared.item.Item.{Item}
use Rattle.mir_func.specs.declared.item.ItemKind.{ItemKind}
use Rattle.mir_func.specs.declared.item.ItemKind.TheVariants.{Code, Mark, Phi}
use Rattle.mir_func.specs.declared.block.Block.{Block}
use Rattle.mir_func.specs.Function.{Function}
use Rattle.pass_trait.specs.Code.{CodeRule}
use Rattle.remat_pass.specs.declared.constant.Constant.{Constant}
use Rattle.remat_pass.specs.Known.{Known, nothing_known, number_in, known_past}

-- bits 12 to 31, which `LUI` sets (RISC-V Unprivileged ISA, RV32I, "Integer Register-Immediate Instructions")
abbrev pub upper_part : ℕ → ℕ
upper_part n = n / 4096 % 1048576

-- the constant definition of n: `ADDI rd, x0, n` if n fits in 12 signed bits, and `LUI` otherwise, with these operands
-- appended
abbrev pub constant_code : (rd n : ℕ) → List Operand → Instruction
constant_code rd n rest = cond (has_12_bits (signed n))
    (record { op = Immediate Addi; operands = Def rd ∷ Use 0 ∷ Imm (signed n) ∷ rest; volatile = false })
    (record { op = Lui; operands = Def rd ∷ Imm (pos (upper_part n)) ∷ rest; volatile = false })

-- the constant for a register, if the number is known
abbrev pub set_to : (rd : ℕ) → Option ℕ → Option Constant
set_to rd None = None
set_to rd (Some n) = Some (record { register = rd; number = n })

-- the constant that a copy from rs sets, if the number is known: none into x0
abbrev pub copied_constant : Known → (rd rs : ℕ) → Option Constant
copied_constant known zero rs = None
copied_constant known (suc rd) rs = set_to (suc rd) (number_in known rs)

-- the known constant that a write sets by a copy or a slot load
abbrev pub constant_written : Known → Write → Option Constant
constant_written known (SetsRegister rd (OfRegister rs)) = copied_constant known rd rs
constant_written known (SetsRegister rd (OfSlot n)) = set_to rd (known (Slot n))
constant_written known _ = None

-- the known constant that code sets by a copy, except into x0, or by a slot load
abbrev pub constant_set : Known → Row → Option Constant
constant_set known row = constant_written known (write_of row)

-- the known constant that may be set in place of an instruction: none for a volatile load, which stays
abbrev pub constant_for : Known → Instruction → Option Constant
constant_for known i = cond (is_volatile_load i) None (constant_set known (row_of i))

-- the instruction replaced by a constant definition, which keeps its implicit operands
abbrev pub set_or_same : Option Constant → Instruction → Instruction
set_or_same None i = i
set_or_same (Some c) i = constant_code c.register c.number (filter is_implicit i.operands)

-- the item with a constant definition in place of a copy or slot load of a known constant, if the load isn't volatile
abbrev pub set_in : Known → ItemKind → ItemKind
set_in known (Code i k) = Code (set_or_same (constant_for known i) i) k
set_in known (Mark v m) = Mark v m
set_in known (Phi p k) = Phi p k

-- the items of a block, in order
abbrev pub set_items : Known → List Item → List Item
set_items known [] = []
set_items known (i ∷ is) =
    record i { kind = set_in known i.kind } ∷ set_items (known_past (set_in known i.kind) known) is

-- a block with its constants rematerialized; nothing is known at its start
abbrev pub set_block : Block → Block
set_block b = record b { items = set_items nothing_known b.items }

-- each block by itself
abbrev pub set_blocks : List Block → List Block
set_blocks blocks = map set_block blocks

-- the function with its constants rematerialized
abbrev pub rematerialized : Function → Function
rematerialized f = record f { blocks = set_blocks f.blocks }

-- rematerialization of constants within blocks, as a code rule
abbrev pub IsRematerialized : CodeRule
IsRematerialized f g = g ≡ rematerialized f
