-- Content while it is written.
use Rattle.std.specs.Prelude.{◌≡◌, ℕ, List, ◌++◌, length}
use Rattle.elf_object.specs.declared.relocations.Relocation.{Relocation}
use Rattle.elf_content.specs.declared.piece.Piece.{Piece}
use Rattle.elf_content.specs.Content.{written, relocations_from}

-- these pieces were appended to bytes and relocations
pub record Grows (bytes : List ℕ) (relocations : List Relocation) (pieces : List Piece) (bytes_new : List ℕ) (relocations_new : List Relocation)
    : Type 0 where
  pub written_are : bytes_new ≡ bytes ++ written pieces
  pub relocated : relocations_new ≡ relocations ++ relocations_from (length bytes) pieces
