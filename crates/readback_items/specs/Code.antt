-- The items that printed lines are judged as.
use Rattle.std.specs.Prelude.{◌≡◌, false, ◌≤◌, if◌then◌else◌, List, map, length, All, IsTrue, Ok}
use Rattle.rv64_instr.specs.declared.op.Op.{Op}
use Rattle.rv64_instr.specs.declared.operand.Operand.{Operand}
use Rattle.rv64_instr.specs.Form.{has_form}
use Rattle.rv64_instr.specs.Instruction.{Instruction}
use Rattle.read_metadata.specs.Maps.{Maps}
use Rattle.mir_func.specs.declared.item.Item.{Item}
use Rattle.mir_func.specs.declared.item.ItemKind.{ItemKind}
use Rattle.mir_func.specs.declared.item.ItemKind.TheVariants.{Code, Mark, Phi}
use Rattle.mir_func.specs.declared.location.Loc.{Loc}
use Rattle.mir_func.specs.Sound.{IsNotPointer}
use Rattle.read_item.specs.declared.judged.Judged.TheVariants as judged_as
use Rattle.read_item.specs.Code.{MAX_OPERANDS}
use Rattle.read_item.specs.Judge.{entries_of, judged}
use Rattle.mir_printer.specs.Printable.{as_slot}
use Rattle.readback_items.specs.Debug.{IsDebug}
use Rattle.readback_items.specs.Forms.{form_of}
use Rattle.readback_items.specs.Laws.{IsWritable}

-- Spill slots and stack objects are printed the same. If the operands have the form of the opcode with slots for all objects, the line is judged to have
-- slots.
abbrev pub judged_operands : Op → List Operand → List Operand
judged_operands op operands = if has_form op (map as_slot operands) then map as_slot operands else operands

-- the instruction that the line of an instruction is judged as: with slots for objects, if its opcode has that form too
abbrev pub judged_instruction : Instruction → Instruction
judged_instruction i = record i { operands = judged_operands i.op i.operands }

-- the item that the line of an item is judged as
abbrev pub judged_kind : ItemKind → ItemKind
judged_kind (Code i k) = Code (judged_instruction i) k
judged_kind (Mark v m) = Mark v m
judged_kind (Phi p k) = Phi p k

-- the conditions on an instruction: it has the form of its opcode, no operand is the stack pointer but implicitly, and it has at most MAX_OPERANDS operands
pub record IsCode (i : Instruction) : Type 0 where
  pub form : IsTrue (has_form i.op i.operands)
  pub pointer : All IsNotPointer i.operands
  pub few : length i.operands ≤ MAX_OPERANDS

-- the conditions on an item
abbrev pub IsReadable : Maps → Loc → ItemKind → Type 0
IsReadable meta loc (Code i k) = IsCode i
IsReadable meta loc (Mark v m) = IsDebug meta loc (Mark v m)
IsReadable meta loc (Phi p k) = IsDebug meta loc (Phi p k)

-- The form of an item's line is judged as the item, with the stack entries that the line names.
abbrev pub FormsAreJudged : Type 0
FormsAreJudged = (meta : Maps) (i : Item) → IsWritable i → IsReadable meta i.loc i.kind →
    judged false meta (form_of i) ≡ Ok (judged_as.Item (record { kind = judged_kind i.kind; loc = i.loc; entries = entries_of (form_of i).operands }))
