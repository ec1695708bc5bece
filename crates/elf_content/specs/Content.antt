-- The content of a section as pieces: bytes that are what they are wherever the section lies, and fields that its relocations fill.
use Rattle.std.specs.Prelude.{◌≡◌, ℕ, ◌+◌, ◌<◌, ◌≤◌, List, [], ◌∷◌, ◌++◌, length, slice_index, ◌-◌}
use Rattle.std.specs.List.{flat_map}
use Rattle.elf_object.specs.declared.relocations.Relocation.{Relocation}
use Rattle.elf_relocation.specs.Kinds.{number_of}
use Rattle.elf_relocation.specs.Fields.{field_size, value_of, filled}
use Rattle.elf_content.specs.declared.piece.Field.{Field}
use Rattle.elf_content.specs.declared.piece.Piece.{Piece}
use Rattle.elf_content.specs.declared.piece.Piece.TheVariants.{Fixed, Relocated}

-- ---- as it is written

-- the bytes of a piece, those of a field before it is filled
abbrev pub bytes_of : Piece → List ℕ
bytes_of (Fixed bytes) = bytes
bytes_of (Relocated f) = f.before

-- the bytes of pieces
abbrev pub written : List Piece → List ℕ
written pieces = flat_map bytes_of pieces

-- the relocation of a field at an offset
abbrev pub relocation_at : (at : ℕ) → Field → Relocation
relocation_at at f = record { offset = at; symbol = f.symbol; relocation_type = number_of f.kind; addend = f.addend }

abbrev pub relocations_in : (at : ℕ) → Piece → List Relocation
relocations_in at (Fixed bytes) = []
relocations_in at (Relocated f) = relocation_at at f ∷ []

-- the relocations of pieces, the first of which is at an offset
abbrev pub relocations_from : (at : ℕ) → List Piece → List Relocation
relocations_from at [] = []
relocations_from at (p ∷ rest) = relocations_in at p ++ relocations_from (at + length (bytes_of p)) rest

-- ---- as it is in a placement

-- the address of the symbol of a number. Symbols count from 1
abbrev pub symbol_address : (addresses : List ℕ) (number : ℕ) → ℕ
symbol_address addresses n = slice_index addresses (n - 1)

-- a field at an address, filled
abbrev pub filled_field : (place : ℕ) (addresses : List ℕ) → Field → List ℕ
filled_field place addresses f = filled f.kind (value_of f.kind (symbol_address addresses f.symbol) f.addend place) f.before

-- the bytes of a piece at an address, where symbols have these addresses
abbrev pub placed_piece : (place : ℕ) (addresses : List ℕ) → Piece → List ℕ
placed_piece place addresses (Fixed bytes) = bytes
placed_piece place addresses (Relocated f) = filled_field place addresses f

-- the bytes of pieces from an address on
abbrev pub placed : (place : ℕ) (addresses : List ℕ) → List Piece → List ℕ
placed place addresses [] = []
placed place addresses (p ∷ rest) = placed_piece place addresses p ++ placed (place + length (bytes_of p)) addresses rest

-- ---- pieces that can be written

-- a field has as many bytes as its kind says
abbrev pub IsWhole : Piece → Type 0
IsWhole (Fixed bytes) = Unit {0}
IsWhole (Relocated f) = length f.before ≡ field_size f.kind

-- the symbol of a field is one of so many
abbrev pub HasSymbol : (symbols : ℕ) → Piece → Type 0
HasSymbol symbols (Fixed bytes) = Unit {0}
HasSymbol symbols (Relocated f) = (0 < f.symbol) × (f.symbol ≤ symbols)
