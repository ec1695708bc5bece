-- The rest of a composite expression, after the pieces up to a byte of the variable.
use Rattle.std.specs.Prelude.{◌≡◌, ℕ, List, ◌∷◌, All}
use Rattle.dwarf_loclists.specs.declared.range.Part.{Part}
use Rattle.dwarf_loclists.specs.Ranges.{ArePieces, HasWord}
use Rattle.dwarf_loclists.specs.Standard.{DW_OP_piece}
use Rattle.dwarf_loclists.specs.Spelling.{composite_location}

-- the bytes are the encoding of pieces from a byte of the variable on
pub record SpellsPieces (from : ℕ) (bytes : List ℕ) : Type 0 where
  pub parts : List Part
  pub are : ArePieces from parts
  pub wide : All (λ p. HasWord p.place) parts
  pub spelled : bytes ≡ composite_location from parts

-- the bytes don't begin with DW_OP_piece
pub record BeginsNoPiece (bytes : List ℕ) : Type 0 where
  pub other : (rest : List ℕ) → bytes ≡ DW_OP_piece ∷ rest → ⊥
