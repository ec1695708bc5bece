-- The location of a variable, from the places of its parts.
use Rattle.std.specs.Prelude.{ℕ, ◌+◌, List, [], ◌∷◌, ◌++◌, Option, Some, None, option_to_list, cond, nat_le, slice_index_or}
use Rattle.rv64_instr.specs.declared.place.Place.{Place}
use Rattle.mir_func.specs.Parts.{Bytes}
use Rattle.dwarf_loclists.specs.declared.range.Part.{Part}
use Rattle.dwarf_loclists.specs.declared.range.Location.{Location}
use Rattle.dwarf_loclists.specs.declared.range.Location.TheVariants.{Whole, Parts}
use Rattle.location_of_variable.specs.declared.group.Group.{Group}
use Rattle.location_of_variable.specs.declared.group.Piece.{Piece}

-- the place of the part at an index
abbrev pub place_at : List (Option Place) → ℕ → Option Place
place_at places j = slice_index_or places j None

-- the piece for some bytes at their place, or None if they have no place or begin before the offset `from`
abbrev pub piece_told : Option Place → (from : ℕ) → Bytes → Option Part
piece_told None from b = None
piece_told (Some place) from b = cond (nat_le from b.offset) (Some (record { offset = b.offset; length = b.length; place = place })) None

-- the end of a piece, or `from` for None
abbrev pub end_past : Option Part → ℕ → ℕ
end_past None from = from
end_past (Some x) from = x.offset + x.length

-- the pieces for parts, in order. A part without a place, or that begins before the end of the last piece, is left out
abbrev pub pieces_from : (place : ℕ → Option Place) → (from : ℕ) → List Piece → List Part
pieces_from place from [] = []
pieces_from place from (x ∷ xs) =
    option_to_list (piece_told (place x.index) from x.bytes) ++ pieces_from place (end_past (piece_told (place x.index) from x.bytes) from) xs

abbrev pub whole_place : (place : ℕ → Option Place) → Option ℕ → Option Place
whole_place place None = None
whole_place place (Some j) = place j

abbrev pub in_pieces : List Part → Option Location
in_pieces [] = None
in_pieces (x ∷ xs) = Some (Parts (x ∷ xs))

abbrev pub told_or : Option Place → List Part → Option Location
told_or (Some place) pieces = Some (Whole place)
told_or None pieces = in_pieces pieces

-- the location by these places: the whole's, or else pieces for the parts that have a place
abbrev pub location_told : Group → List (Option Place) → Option Location
location_told group places = told_or (whole_place (place_at places) group.whole) (pieces_from (place_at places) 0 group.pieces.items)
