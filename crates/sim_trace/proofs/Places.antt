-- What lists that can be read name.
use Rattle.std.proofs.Common.{ℕ, ◌+◌, List, [], ◌∷◌}
use Rattle.std.specs.List.{All}
use Rattle.std.proofs.lemmas.List.Elements.{All-nil, All-cons}
use Rattle.dwarf_loclists.specs.declared.range.Part.{Part}
use Rattle.dwarf_loclists.specs.declared.range.Location.TheVariants.{Parts}
use Rattle.dwarf_loclists.specs.Ranges.{IsLocated, ArePieces}
use Rattle.sim_trace.specs.steps.Readable.{IsReadablePiece}

pieces_from : (from : ℕ) (parts : List Part) → ArePieces from parts → All IsReadablePiece parts
pieces_from from [] h = All-nil IsReadablePiece
pieces_from from (p ∷ parts) h = All-cons IsReadablePiece p parts (h.0.4, h.0.2) (pieces_from (p.offset + p.length) parts h.1)

pub pieces : (parts : List Part) → IsLocated (Parts parts) → All IsReadablePiece parts
pieces [] h = absurd h
pieces (p ∷ parts) h = pieces_from 0 (p ∷ parts) h
