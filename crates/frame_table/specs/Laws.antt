-- Laws of the call frame information of functions' code.
use Rattle.std.specs.Prelude.{◌≡◌, ℕ, ◌+◌, ◌*◌, List, [], ◌∷◌, length, Contains}
use Rattle.std.specs.List.{AllZip}
use Rattle.emit_code.specs.declared.code.EncodedInstruction.{EncodedInstruction}
use Rattle.emit_code.specs.Laid.{LaidCode, StandFrom}
use Rattle.dwarf_frame.specs.declared.table.FrameDescription.{FrameDescription}
use Rattle.dwarf_frame.specs.FirstFault.{IsSection}
use Rattle.dwarf_frame.specs.Rows.{RulesAt, unwinding}
use Rattle.frame_table.specs.Table.{entry_row, Describes}

-- the address after a function's words
abbrev pub end_of : LaidCode → ℕ
end_of c = c.base + 4 * length c.words

-- functions are contiguous from an address on, and the entries of each are contiguous from its first address to its end
abbrev pub LieFrom : (address : ℕ) → List LaidCode → Type 0
LieFrom a [] = Unit {0}
LieFrom a (c ∷ cs) = (c.base ≡ a) × StandFrom c.base c.entries (end_of c) × LieFrom (end_of c) cs

-- By the section of functions that lie one after the other the rules of each entry's address are those of the frame's state at its
-- point, whatever registers are undefined.
abbrev pub SectionsShowFrames : Type 0
SectionsShowFrames = (undefined bytes : List ℕ) (codes : List LaidCode) (table : List FrameDescription) (base : ℕ) → LieFrom base codes →
    AllZip Describes codes table → IsSection undefined bytes table → (c : LaidCode) → Contains codes c → (e : EncodedInstruction) → Contains c.entries e →
    RulesAt undefined bytes e.address (unwinding undefined (entry_row c.framed e).rules)
