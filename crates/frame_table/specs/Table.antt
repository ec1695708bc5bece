-- The call frame information of a function's code (DWARF 5 section 6.4.1): at each entry what the frame's state at the entry's point
-- says.
use Rattle.std.specs.Prelude.{◌≡◌, ℕ, zero, suc, ◌-◌, ◌*◌, cond, nat_eq, List, [], ◌∷◌, map, length, Option, Some, None}
use Rattle.mir_func.specs.declared.framed.SavedRegister.{SavedRegister}
use Rattle.mir_func.specs.declared.position.Pos.{Pos}
use Rattle.mir_func.specs.declared.position.ProgramPoint.{ProgramPoint}
use Rattle.mir_func.specs.Function.{FramedFunction}
use Rattle.emit_code.specs.declared.code.EncodedInstruction.{EncodedInstruction}
use Rattle.emit_code.specs.Laid.{LaidCode}
use Rattle.frame_proof.specs.Stands.{FrameState, frame_state}
use Rattle.dwarf_frame.specs.declared.table.FrameRow.{FrameRow}
use Rattle.dwarf_frame.specs.declared.table.Row.{Row}
use Rattle.dwarf_frame.specs.declared.table.FrameDescription.{FrameDescription}
use Rattle.dwarf_frame.specs.Rows.{Changes}
use Rattle.dwarf_frame.specs.Table.{none_saved, initial}

-- how far below the CFA, which is the stack pointer's value at entry, the slot of a saved register is, in a frame of this size
abbrev pub distance_in : (size : ℕ) → List SavedRegister → (register : ℕ) → Option ℕ
distance_in size [] register = None
distance_in size (s ∷ saved) register = cond (nat_eq s.register register) (Some (size - s.offset)) (distance_in size saved register)

-- the same of this many registers, from this one on
abbrev pub distances_from : FramedFunction → (register count : ℕ) → List (Option ℕ)
distances_from f register zero = []
distances_from f register (suc count) = distance_in f.size f.saved register ∷ distances_from f (suc register) count

-- the rules in a state of the frame: the CFA is as far above x2 as x2 is lowered, and if registers are saved, each is below the CFA
abbrev pub frame_row : FramedFunction → FrameState → FrameRow
frame_row f s = record { cfa_offset = s.lowered; saved = cond s.saved (distances_from f 0 32) none_saved }

-- a point as a position of the function with its frame
abbrev pub position_of : ProgramPoint → Pos
position_of p = record { block = p.block; item = p.item }

-- the rules at an entry's address: those in the frame's state at its point
abbrev pub entry_row : FramedFunction → EncodedInstruction → Row
entry_row f e = record { address = e.address; rules = frame_row f (frame_state f (position_of e.point)) }

-- the call frame information of a function's code: a row where the state changes
pub record Describes (c : LaidCode) (d : FrameDescription) : Type 0 where
  pub start : d.start ≡ c.base
  pub size : d.size ≡ 4 * length c.words
  pub rows : Changes (initial c.base).rules (map (entry_row c.framed) c.entries) d.rows
