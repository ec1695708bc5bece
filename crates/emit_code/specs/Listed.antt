-- The code lines of a listing: one for each entry, with its instruction.
use Rattle.std.specs.Prelude.{ℕ, ◌+◌, pos, ◌+ℤ◌, List, [], ◌∷◌}
use Rattle.std.specs.List.{flat_map}
use Rattle.rv64_instr.specs.declared.operand.Operand.{Operand}
use Rattle.rv64_instr.specs.declared.operand.Operand.TheVariants.{Use, Imm, Slot, Object}
use Rattle.rv64_instr.specs.Instruction.{Instruction, is_volatile_load}
use Rattle.mir_func.specs.declared.item.ItemKind.{ItemKind}
use Rattle.mir_func.specs.declared.item.ItemKind.TheVariants.{Code, Mark, Phi}
use Rattle.mir_func.specs.declared.position.Origin.{Origin}
use Rattle.mir_func.specs.Function.{FramedFunction}
use Rattle.mir_func.specs.Objects.{offset_of}
use Rattle.mir_func.specs.SoundFrame.{own_size}
use Rattle.emit_code.specs.LongBranch.{skip_of, jump_to}
use Rattle.emit_code.specs.Rule.{Layout, Site, Form, Nothing, OneWord, CallSite, LongBranch, form_of, address_in, added_before, sites_of}

-- a code line: the address of its first byte, its origin, and its instruction
pub record Line : Type 0 where
  pub address : ℕ
  pub origin : Origin
  pub instruction : Instruction

-- the operands as they are encoded: a slot (its number is its offset from x2) or a stack object becomes x2 and an offset
abbrev pub by_pointer : FramedFunction → List Operand → List Operand
by_pointer f (r ∷ Slot n ∷ Imm i ∷ rest) = r ∷ Use 2 ∷ Imm (pos n) ∷ rest
by_pointer f (r ∷ Object n ∷ Imm i ∷ rest) = r ∷ Use 2 ∷ Imm (pos (own_size f + offset_of f.objects n) +ℤ i) ∷ rest
by_pointer f operands = operands

-- an instruction with its slots and stack objects as offsets from x2, as after frame index elimination (LLVM). Only a load is shown as volatile
abbrev pub listed : FramedFunction → Instruction → Instruction
listed f i = record i { operands = by_pointer f i.operands; volatile = is_volatile_load i }

-- a line from its parts
abbrev pub line : (address : ℕ) → Origin → Instruction → Line
line a o i = record { address = a; origin = o; instruction = i }

-- the code lines of an item by its form. A long branch is listed as the inverted branch over the next word, and a jump
abbrev pub form_lines : FramedFunction → (address : ℕ) → Origin → Instruction → Form → List Line
form_lines f a o i Nothing = []
form_lines f a o i OneWord = line a o (listed f i) ∷ []
form_lines f a o i CallSite = line a o (listed f i) ∷ []
form_lines f a o i (LongBranch n) = line a (added_before o) (skip_of i) ∷ line (a + 4) o (jump_to n) ∷ []

-- the code lines of an item of this kind: none for a debug value or DBG_PHI
abbrev pub kind_lines : Layout → Site → ItemKind → List Line
kind_lines l s (Code i k) = form_lines l.framed (address_in l s.point) s.item.origin i (form_of (l.long s.point) (Code i k))
kind_lines l s (Mark v m) = []
kind_lines l s (Phi p k) = []

-- the code lines of an item
abbrev pub lines_at : Layout → Site → List Line
lines_at l s = kind_lines l s s.item.kind

-- all code lines of a layout, in the order of their addresses
abbrev pub lines_of : Layout → List Line
lines_of l = flat_map (lines_at l) (sites_of l.framed)
