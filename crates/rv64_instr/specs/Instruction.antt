-- An instruction as contracts see it.
use Rattle.std.specs.Prelude.{Bool, true, false, ◌&&◌, List}
use Rattle.rv64_instr.specs.declared.op.Op.{Op}
use Rattle.rv64_instr.specs.declared.op.Op.TheVariants.{Load}
use Rattle.rv64_instr.specs.declared.operand.Operand.{Operand}

-- an opcode and its operands in text order, and whether its access of memory, if it has one, is volatile (LLVM Language Reference, "Volatile Memory
-- Accesses")
pub record Instruction : Type 0 where
  pub op : Op
  pub operands : List Operand
  pub volatile : Bool

-- a load
abbrev pub is_load : Op → Bool
is_load (Load op) = true
is_load _ = false

-- a volatile load. It may have effects that memory's content doesn't show, so passes leave it where it is
abbrev pub is_volatile_load : Instruction → Bool
is_volatile_load i = is_load i.op && i.volatile
