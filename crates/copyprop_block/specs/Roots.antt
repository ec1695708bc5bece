-- Copies that are available along a block: registers that have the same value as another one.
use Rattle.std.specs.Prelude.{ℕ, zero, suc, List, [], ◌∷◌, ◌++◌, map, filter, Option, Some, None, Bool, cond, not, ◌&&◌, nat_eq}
use Rattle.rv64_instr.specs.declared.operand.Operand.{Operand}
use Rattle.rv64_instr.specs.declared.operand.Operand.TheVariants.{Def, Use, ImplicitDef, ImplicitUse, Imm, Slot, Object, Part, Outgoing, Block, Symbol, Mask}
use Rattle.rv64_instr.specs.declared.operand.Operand.TheVariants.{GlobalRegisters}
use Rattle.rv64_instr.specs.declared.place.Place.TheVariants.{Register}
use Rattle.rv64_instr.specs.Instruction.{Instruction}
use Rattle.rv64_instr.specs.Row.{Row, Moves}
use Rattle.rv64_instr.specs.View.{OfRegister, Write, SetsRegister, write_of}
use Rattle.rv64_instr.specs.LocationEffects.{defines_of}
use Rattle.copyprop_block.specs.declared.roots.Root.{Root}

-- the register whose value r has, by its first entry: its root, or itself
abbrev pub root_of : List Root → ℕ → ℕ
root_of [] r = r
root_of (e ∷ es) r = cond (nat_eq e.copy r) e.root (root_of es r)

-- an operand in which an explicit use is replaced by its root
abbrev pub renamed_operand : List Root → Operand → Operand
renamed_operand e (Use r) = Use (root_of e r)
renamed_operand e (Def r) = Def r
renamed_operand e (ImplicitDef r) = ImplicitDef r
renamed_operand e (ImplicitUse r) = ImplicitUse r
renamed_operand e (Imm i) = Imm i
renamed_operand e (Slot n) = Slot n
renamed_operand e (Object n) = Object n
renamed_operand e (Part half y) = Part half y
renamed_operand e (Outgoing n) = Outgoing n
renamed_operand e GlobalRegisters = GlobalRegisters
renamed_operand e (Block n) = Block n
renamed_operand e (Symbol name) = Symbol name
renamed_operand e Mask = Mask

-- the instruction with roots for its explicit uses (LLVM: `forwardUses` of MachineCopyPropagation)
abbrev pub renamed : List Root → Instruction → Instruction
renamed e i = record i { operands = map (renamed_operand e) i.operands }

-- the source of a redundant copy: the target is the source itself, or has it as its root
abbrev pub known_source : List Root → Row → Option ℕ
known_source e (Moves (suc rd) s) = cond (nat_eq (root_of e (suc rd)) s) (Some s) None
known_source e _ = None

-- the row defines neither register of the entry
abbrev pub outlives : Row → Root → Bool
outlives row e = not (defines_of row (Register e.copy)) && not (defines_of row (Register e.root))

-- without the entries of what the row defines, as copy or as root
abbrev pub forgotten : Row → List Root → List Root
forgotten row e = filter (outlives row) e

-- with one entry more, for a copy into a register that isn't x0
abbrev pub with_copy : (rd rs : ℕ) → List Root → List Root
with_copy zero rs e = e
with_copy (suc rd) rs e = e ++ record { copy = suc rd; root = rs } ∷ []

-- with the entry of what is set, if that is a copy
abbrev pub with_write : Write → List Root → List Root
with_write (SetsRegister rd (OfRegister rs)) e = with_copy rd rs e
with_write _ e = e

-- with one entry more, if the row is a copy whose target isn't x0
abbrev pub learned : Row → List Root → List Root
learned row e = with_write (write_of row) e

-- the available copies after code of a row that is kept
abbrev pub roots_after : Row → List Root → List Root
roots_after row e = learned row (forgotten row e)
