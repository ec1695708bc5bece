-- The bytes of relocations with addends (System V gABI, chapter 4, "Relocation").
use Rattle.std.specs.Prelude.{◌≡◌, ℕ, ◌^◌, ◌<◌, List, ◌++◌, All}
use Rattle.std.specs.List.{flat_map}
use Rattle.std.specs.Int.{w32, w64, to_le_bytes}
use Rattle.elf_object.specs.declared.relocations.Relocation.{Relocation}

-- a relocation (Elf64_Rela): its offset; its type and its symbol, which are the low and the high half of r_info; and its addend
unfoldable pub relocation : Relocation → List ℕ
relocation r = to_le_bytes w64 r.offset ++ to_le_bytes w32 r.relocation_type ++ to_le_bytes w32 r.symbol ++ to_le_bytes w64 r.addend

-- relocations, in order
abbrev pub relocation_table : List Relocation → List ℕ
relocation_table relocations = flat_map relocation relocations

-- the fields of a relocation fit
pub record FitsRelocation (r : Relocation) : Type 0 where
  pub offset : r.offset < 2 ^ 64
  pub relocation_type : r.relocation_type < 2 ^ 32
  pub symbol : r.symbol < 2 ^ 32
  pub addend : r.addend < 2 ^ 64

-- the bytes are those of these relocations
pub record AreRelocations (relocations : List Relocation) (bytes : List ℕ) : Type 0 where
  pub table : bytes ≡ relocation_table relocations
  pub fits : All FitsRelocation relocations
