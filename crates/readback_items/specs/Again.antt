-- Instructions that are printed and read again.
use Rattle.std.specs.Prelude.{◌≡◌, ℕ, Bool, true, false, List, Ok}
use Rattle.std.specs.List.{list_any}
use Rattle.rv64_instr.specs.declared.op.Op.{Op}
use Rattle.rv64_instr.specs.Instruction.{Instruction}
use Rattle.read_line.specs.declared.form.ItemForm.{ItemForm}
use Rattle.read_line.specs.declared.form.OperandForm.{OperandForm}
use Rattle.read_line.specs.declared.form.OperandForm.TheVariants as form
use Rattle.read_item.specs.Code.{code_of}
use Rattle.read_program.specs.Objects.{instr_as}
use Rattle.readback_items.specs.Code.{judged_instruction}

-- whether an operand is a fixed stack object, which the linked language alone has
abbrev pub is_fixed : OperandForm → Bool
is_fixed (form.Fixed n) = true
is_fixed _ = false

-- The printed line of an instruction that was read of the language that isn't linked is judged as the same instruction again, whichever stack entries are
-- stack objects. So code names the same entries as objects after a function is printed and read again.
abbrev pub CodeIsJudgedAgain : Type 0
CodeIsJudgedAgain = (op : Op) (line : ItemForm) (i : Instruction) (ids : List ℕ) → list_any is_fixed line.operands ≡ false → code_of op line ≡ Ok i →
    judged_instruction (instr_as ids i) ≡ i
