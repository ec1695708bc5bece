-- The two instructions that a line of `PseudoMovAddr` is: `LUI` of the upper half of an address, and `ADDI` of its lower half.
use Rattle.std.specs.Prelude.{Bool, false, ◌&&◌, ◌||◌, if◌then◌else◌, is_none, List, [], ◌∷◌, Option, Some, None, Result, Ok, Err}
use Rattle.std.specs.List.{list_any}
use Rattle.std.specs.Ordering.{int_eq}
use Rattle.read_refusal.specs.declared.kind.RefusalKind.{RefusalKind}
use Rattle.read_refusal.specs.declared.kind.RefusalKind.TheVariants as kinds
use Rattle.rv64_instr.specs.declared.op.Op.{Op}
use Rattle.rv64_instr.specs.declared.op.Op.TheVariants.{Immediate, Lui}
use Rattle.rv64_instr.specs.declared.op.ImmediateOp.TheVariants.{Addi}
use Rattle.rv64_instr.specs.declared.operand.Operand.{Operand}
use Rattle.rv64_instr.specs.declared.operand.Operand.TheVariants.{Def, Use, Part}
use Rattle.rv64_instr.specs.declared.symbol.LinkedAddress.{LinkedAddress}
use Rattle.rv64_instr.specs.declared.symbol.Half.TheVariants.{Upper, Lower}
use Rattle.rv64_instr.specs.Form.{has_form}
use Rattle.rv64_instr.specs.Instruction.{Instruction}
use Rattle.rv64_instr.specs.Linked.{is_same_symbol}
use Rattle.read_line.specs.declared.form.ItemForm.{ItemForm}
use Rattle.read_item.specs.declared.place.OperandKind.TheVariants.{Number}
use Rattle.read_item.specs.Code.{Rule, refusal_by, joined, definitions, placed, is_refused_virtual, is_refused_operand, is_pointer, is_pointer_operand, is_long}

-- the operands of a `PseudoMovAddr`, defs first, if each exists
abbrev pub address_operands : ItemForm → Option (List Operand)
address_operands line = joined (definitions line.definitions) (placed (Number ∷ Number ∷ []) line.operands)

-- two addresses of one symbol and one number of bytes
abbrev pub is_same_address : LinkedAddress → LinkedAddress → Bool
is_same_address y z = is_same_symbol y.symbol z.symbol && int_eq y.addend z.addend

-- the instruction of these operands, if they have the form of the opcode
abbrev pub formed : Op → List Operand → Option Instruction
formed op operands = if has_form op operands then Some (record { op = op; operands = operands; volatile = false }) else None

-- both, if both exist
abbrev pub both : {A : Type 0} → Option A → Option A → Option (A × A)
both None second = None
both (Some a) None = None
both (Some a) (Some b) = Some (a, b)

-- the instructions that set a register to an address, by its halves. The second has the implicit operands of the line
abbrev pub halves_of : List Operand → Option (Instruction × Instruction)
halves_of (Def rd ∷ Part Upper y ∷ Part Lower z ∷ rest) =
    if is_same_address y z
    then both (formed Lui (Def rd ∷ Part Upper y ∷ [])) (formed (Immediate Addi) (Def rd ∷ Use rd ∷ Part Lower z ∷ rest))
    else None
halves_of _ = None

-- the same, if there are operands
abbrev pub halves_in : Option (List Operand) → Option (Instruction × Instruction)
halves_in None = None
halves_in (Some operands) = halves_of operands

-- the checks of a line of `PseudoMovAddr`
abbrev pub address_rules : ItemForm → List Rule
address_rules line =
    record { broken = line.exceeds || is_none (halves_in (address_operands line)); refusal = kinds.BadOperands } ∷
    record { broken = list_any is_refused_virtual line.definitions || list_any is_refused_operand line.operands; refusal = kinds.VirtualRegister } ∷
    record { broken = list_any is_pointer line.definitions || list_any is_pointer_operand line.operands; refusal = kinds.StackPointerUse } ∷
    record { broken = is_long line; refusal = kinds.TooMany } ∷ []

-- two instructions, or the refusal, which is BadOperands if there is neither
abbrev pub halves_unless : Option RefusalKind → Option (Instruction × Instruction) → Result (Instruction × Instruction) RefusalKind
halves_unless (Some refusal) halves = Err refusal
halves_unless None (Some halves) = Ok halves
halves_unless None None = Err kinds.BadOperands

-- the two instructions of a line of `PseudoMovAddr`, or the refusal of the first check that fails
unfoldable pub address_of : ItemForm → Result (Instruction × Instruction) RefusalKind
address_of line = halves_unless (refusal_by (address_rules line)) (halves_in (address_operands line))
