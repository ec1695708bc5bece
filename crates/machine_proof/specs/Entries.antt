-- The entries of a layout, by their addresses and points, and its lines.
use Rattle.std.specs.Prelude.{◌≡◌, ◌↔◌, ℕ, map, Contains, Some}
use Rattle.mir_func.specs.declared.position.Origin.{Origin}
use Rattle.mir_func.specs.declared.position.Pos.{Pos}
use Rattle.sem_machine.specs.Image.{CodeLine, Image, line_at}
use Rattle.emit_code.specs.declared.code.EncodedInstruction.{EncodedInstruction}
use Rattle.emit_code.specs.Listed.{Line, lines_of}
use Rattle.emit_code.specs.Rule.{Layout, address_in, entries_of}
use Rattle.machine_steps_proof.specs.Images.{IsImageOf}
use Rattle.machine_proof.specs.Lists.{IsPointAt}

-- an entry of the layout begins at the address and is of the item at the point
pub record IsEntryAt (l : Layout) (address : ℕ) (p : Pos) : Type 0 where
  pub entry : EncodedInstruction
  pub among : Contains (entries_of l) entry
  pub begins : entry.address ≡ address
  pub point : record { block = entry.point.block; item = entry.point.item } ≡ p

-- An entry of a point begins at an address if and only if the address is that of the point's instruction (`IsPointAt`).
abbrev pub EntriesArePoints : Type 0
EntriesArePoints = (l : Layout) (a : ℕ) (p : Pos) → IsEntryAt l a p ↔ IsPointAt l.framed (address_in l) a p

-- the address and the origin of a code line
abbrev pub place_of_line : Line → ℕ × Origin
place_of_line x = (x.address, x.origin)

-- the address and the origin of an entry
abbrev pub place_of_entry : EncodedInstruction → ℕ × Origin
place_of_entry e = (e.address, e.origin)

-- The lines and the entries of a layout have the same addresses and origins, in the same order.
abbrev pub LinesAreEntries : Type 0
LinesAreEntries = (l : Layout) → map place_of_line (lines_of l) ≡ map place_of_entry (entries_of l)

-- So for each line of an image an entry of its layout begins at the line's address, with the same origin.
abbrev pub ImageLinesAreEntries : Type 0
ImageLinesAreEntries = (l : Layout) (image : Image) → IsImageOf l image → (a : ℕ) (x : CodeLine) → line_at image.lines a ≡ Some x →
    (p : Pos) × (at : IsEntryAt l a p) × (at.entry.origin ≡ x.origin)
