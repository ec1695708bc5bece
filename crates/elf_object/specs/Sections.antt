-- Where a file has its sections (System V gABI, chapter 4, "ELF Header" and "Section Header"): the section header table is at the
-- offset e_shoff, and each header has the offset and the size of its section's bytes, and the offset of its name in the section
-- whose index is e_shstrndx.
use Rattle.std.specs.Prelude.{◌≡◌, ℕ, ◌+◌, ◌*◌, List, ◌++◌, take, drop}
use Rattle.std.specs.Int.{Width, w16, w32, w64, byte_len, from_le_bytes}
use Rattle.elf_object.specs.declared.object.Section.{Section}
use Rattle.elf_object.specs.Spelling.{text}

-- the little-endian number at an offset
abbrev pub number_at : Width → (at : ℕ) → List ℕ → ℕ
number_at w at bytes = from_le_bytes w (take (byte_len w) (drop at bytes))

-- the offset of the section header of an index: from e_shoff on each has e_shentsize bytes
abbrev pub header_at : (bytes : List ℕ) (index : ℕ) → ℕ
header_at bytes index = number_at w64 40 bytes + number_at w16 58 bytes * index

-- the bytes of the section of an index: sh_size bytes from sh_offset on
abbrev pub section_at : (bytes : List ℕ) (index : ℕ) → List ℕ
section_at bytes index =
    take (number_at w64 (header_at bytes index + 32) bytes) (drop (number_at w64 (header_at bytes index + 24) bytes) bytes)

-- the section of an index is this one. Its name is the string at sh_name in the section of the names, whose index is e_shstrndx
pub record IsSectionAt (file : List ℕ) (index : ℕ) (s : Section) : Type 0 where
  pub section_type : number_at w32 (header_at file index + 4) file ≡ s.section_type
  pub flags : number_at w64 (header_at file index + 8) file ≡ s.flags
  pub link : number_at w32 (header_at file index + 40) file ≡ s.link
  pub info : number_at w32 (header_at file index + 44) file ≡ s.info
  pub alignment : number_at w64 (header_at file index + 48) file ≡ s.alignment
  pub entry_size : number_at w64 (header_at file index + 56) file ≡ s.entry_size
  pub bytes : section_at file index ≡ s.bytes
  pub after : List ℕ
  pub name : drop (number_at w32 (header_at file index) file) (section_at file (number_at w16 62 file)) ≡ text s.name ++ after
