-- What the headers of a file tell of its sections.
use Rattle.std.specs.Prelude.{ℕ, zero, suc, ◌+◌, ◌-◌, List, [], ◌∷◌, ◌++◌, take, drop, ◌==◌}
use Rattle.std.specs.List.{position_or_len}
use Rattle.std.specs.Int.{w32, w64}
use Rattle.elf_object.specs.declared.object.Section.{Section}
use Rattle.elf_object.specs.declared.object.Object.{Object}
use Rattle.elf_object.specs.Sections.{number_at}
use Rattle.elf_object.specs.FirstFault.{count_in, flags_in, name_in, offset_in, size_in, header_after, names_in}

-- all bytes of fields of these sizes
abbrev pub total : List ℕ → ℕ
total [] = 0
total (n ∷ sizes) = n + total sizes

-- the section with the header at an offset
abbrev pub section_told : (names : List ℕ) (header : ℕ) → List ℕ → Section
section_told names header bytes = record {
  name = take (position_or_len (λ b. b == 0) (drop (name_in header bytes) names)) (drop (name_in header bytes) names);
  section_type = number_at w32 (header + 4) bytes;
  flags = number_at w64 (header + 8) bytes;
  link = number_at w32 (header + 40) bytes;
  info = number_at w32 (header + 44) bytes;
  alignment = number_at w64 (header + 48) bytes;
  entry_size = number_at w64 (header + 56) bytes;
  bytes = take (size_in header bytes) (drop (offset_in header bytes) bytes);
}

-- the sections up to an index
abbrev pub sections_told : (bytes : List ℕ) (index : ℕ) → List Section
sections_told bytes zero = []
sections_told bytes (suc index) = sections_told bytes index ++ section_told (names_in bytes) (header_after bytes index) bytes ∷ []

-- the object
abbrev pub object_told : List ℕ → Object
object_told bytes = record { flags = flags_in bytes; sections = sections_told bytes (count_in bytes - 2) }
