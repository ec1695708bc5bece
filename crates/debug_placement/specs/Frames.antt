-- The pieces of `.debug_frame`, and the section where code and the section itself lie at other addresses.
use Rattle.std.specs.Prelude.{ℕ, ◌+◌, ◌<◌, ◌^◌, List, [], ◌∷◌, ◌++◌, length, map}
use Rattle.std.specs.List.{flat_map}
use Rattle.std.specs.Int.{w32, w64, to_le_bytes}
use Rattle.dwarf_frame.specs.declared.table.Row.{Row}
use Rattle.dwarf_frame.specs.declared.table.FrameDescription.{FrameDescription}
use Rattle.dwarf_frame.specs.Spelling.{common_entry, instructions}
use Rattle.elf_content.specs.declared.piece.Piece.{Piece}
use Rattle.elf_content.specs.declared.piece.Piece.TheVariants.{Fixed}
use Rattle.debug_placement.specs.Fields.{address_field, offset_field}

-- ---- the section by where its first entry is

-- a frame description entry (DWARF 5 section 6.4.1) whose CIE is at this offset of the section
abbrev pub description_by : (common : ℕ) → FrameDescription → List ℕ
description_by common f =
    to_le_bytes w32 (20 + length (instructions f)) ++ to_le_bytes w32 common ++ to_le_bytes w64 f.start ++ to_le_bytes w64 f.size ++ instructions f

-- the bytes of these functions in a section that a linker joined: the CIE is at this offset of it
abbrev pub spelling_by : (common : ℕ) (undefined : List ℕ) → List FrameDescription → List ℕ
spelling_by common undefined functions = common_entry undefined ++ flat_map (description_by common) functions

-- ---- its pieces, by the numbers of the symbols of its own section and of the code's

abbrev pub description_pieces : (frame text : ℕ) → FrameDescription → List Piece
description_pieces frame text f =
    Fixed (to_le_bytes w32 (20 + length (instructions f))) ∷ offset_field frame 0 ∷ address_field text f.start
    ∷ Fixed (to_le_bytes w64 f.size ++ instructions f) ∷ []

abbrev pub frame_pieces : (frame text : ℕ) (undefined : List ℕ) → List FrameDescription → List Piece
frame_pieces frame text undefined functions = Fixed (common_entry undefined) ∷ flat_map (description_pieces frame text) functions

-- ---- code from an address on

abbrev pub moved_row : (base : ℕ) → Row → Row
moved_row base r = record { address = base + r.address; rules = r.rules }

-- the description with each address moved
abbrev pub moved_description : (base : ℕ) → FrameDescription → FrameDescription
moved_description base f = record { start = base + f.start; size = f.size; rows = map (moved_row base) f.rows }

-- a moved function's code lies in 64 bits
abbrev pub EndsBelow : (base : ℕ) → FrameDescription → Type 0
EndsBelow base f = base + f.start + f.size < 2 ^ 64
