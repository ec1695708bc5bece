-- The item that a line is, or why the line is refused.
use Rattle.std.specs.Prelude.{ℕ, pos, Bool, true, false, ◌&&◌, is_none, if◌then◌else◌, List, [], ◌∷◌, Option, Some, None, Result, Ok, Err}
use Rattle.std.specs.Ordering.{int_eq}
use Rattle.std.specs.List.{filter_map}
use Rattle.read_refusal.specs.declared.kind.RefusalKind.{RefusalKind}
use Rattle.read_refusal.specs.declared.kind.RefusalKind.TheVariants as kinds
use Rattle.rv64_instr.specs.Instruction.{Instruction}
use Rattle.read_line.specs.mir_func.declared.item.ItemKind.{ItemKind}
use Rattle.read_line.specs.mir_func.declared.item.ItemKind.TheVariants as items
use Rattle.read_line.specs.read_metadata.Maps.{Maps}
use Rattle.read_line.specs.declared.form.OperandForm.{OperandForm}
use Rattle.read_line.specs.declared.form.OperandForm.TheVariants as form
use Rattle.read_line.specs.declared.form.ItemForm.{ItemForm}
use Rattle.read_item.specs.declared.judged.Judged.{Judged}
use Rattle.read_item.specs.declared.judged.Judged.TheVariants.{Passed, Item, Two}
use Rattle.read_item.specs.declared.opcode.Opcode.{Opcode}
use Rattle.read_item.specs.declared.opcode.Opcode.TheVariants as opcodes
use Rattle.read_item.specs.Opcode.{opcode_of, returning}
use Rattle.read_item.specs.Address.{address_of}
use Rattle.read_item.specs.Code.{fixed_number, code_of}
use Rattle.read_item.specs.Debug.{debug_of, is_empty}

-- the number of a stack entry or of a fixed stack object
abbrev pub entry_of : OperandForm → Option ℕ
entry_of (form.Slot n) = Some n
entry_of (form.Fixed n) = Some (fixed_number n)
entry_of _ = None

-- the numbers of what a line names, in order
abbrev pub entries_of : List OperandForm → List ℕ
entries_of operands = filter_map entry_of operands

-- an instruction with the debug instruction number of its line
abbrev pub numbered : Option ℕ → Result Instruction RefusalKind → Result ItemKind RefusalKind
numbered number (Ok instr) = Ok (items.Code instr number)
numbered number (Err refusal) = Err refusal

-- an item with the debug location of its line and the numbers of what the line names
abbrev pub item_of : ItemForm → Result ItemKind RefusalKind → Result Judged RefusalKind
item_of line (Ok kind) = Ok (Item (record { kind = kind; loc = line.loc; entries = entries_of line.operands }))
item_of line (Err refusal) = Err refusal

-- two items with the debug location of their line: the second has its debug instruction number, and the numbers of what the line names
abbrev pub two_of : ItemForm → Result (Instruction × Instruction) RefusalKind → Result Judged RefusalKind
two_of line (Ok halves) = Ok (Two
    (record { kind = items.Code halves.0 None; loc = line.loc; entries = [] })
    (record { kind = items.Code halves.1 line.number; loc = line.loc; entries = entries_of line.operands }))
two_of line (Err refusal) = Err refusal

-- whether an operand is the integer 0
abbrev pub is_zero : OperandForm → Bool
is_zero (form.Integer (Some i)) = int_eq i (pos 0)
is_zero _ = false

-- whether operands begin with `0, 0`: the call frame takes no bytes
abbrev pub begins_with_zeros : List OperandForm → Bool
begins_with_zeros (a ∷ b ∷ rest) = is_zero a && is_zero b
begins_with_zeros _ = false

-- whether an operand is an integer
abbrev pub is_integer : OperandForm → Bool
is_integer (form.Integer i) = true
is_integer _ = false

-- whether operands begin with two integers
abbrev pub begins_with_integers : List OperandForm → Bool
begins_with_integers (a ∷ b ∷ rest) = is_integer a && is_integer b
begins_with_integers _ = false

-- whether these are operands of a call frame: in the linked language it may take bytes
abbrev pub is_call_frame : (linked : Bool) → List OperandForm → Bool
is_call_frame linked operands = if linked then begins_with_integers operands else begins_with_zeros operands

-- ignored if this holds, and else refused as BadOperands
abbrev pub passed_if : Bool → Result Judged RefusalKind
passed_if good = if good then Ok Passed else Err kinds.BadOperands

-- the item of a line with this opcode, or its refusal. Lines of `DBG_LABEL`, `KILL`, `IMPLICIT_DEF` and call frames are no items: only what
-- stands here is asked of them, and their numbers and stack entries have no limits
abbrev pub judged_by : (linked : Bool) → Option Opcode → Maps → ItemForm → Result Judged RefusalKind
judged_by linked None meta line = Err kinds.UnknownOpcode
judged_by linked (Some (opcodes.Code op)) meta line = item_of line (numbered line.number (code_of (returning linked line.no_return op) line))
judged_by linked (Some opcodes.Address) meta line = two_of line (address_of line)
judged_by linked (Some (opcodes.Debug op)) meta line = item_of line (debug_of op meta line)
judged_by linked (Some opcodes.Label) meta line = passed_if (is_none line.number)
judged_by linked (Some opcodes.Pseudo) meta line = Ok Passed
judged_by linked (Some opcodes.CallFrame) meta line = passed_if (is_empty line.definitions && is_call_frame linked line.operands)

-- the item of a line, given the metadata of its text, or the line's refusal with the lowest number; `linked` is whether the opcodes of the linked language are
-- read
unfoldable pub judged : (linked : Bool) → Maps → ItemForm → Result Judged RefusalKind
judged linked meta line = judged_by linked (opcode_of linked line.opcode) meta line
