-- The unique encoding of a relocatable ELF64 object (System V gABI, chapter 4): the ELF header, the sections' bytes in order,
-- and the section header table.
use Rattle.std.specs.Prelude.{ℕ, ◌+◌, ◌-◌, ◌%◌, List, [], ◌∷◌, ◌++◌, length, replicate, map, codes}
use Rattle.std.specs.List.{flat_map}
use Rattle.std.specs.Int.{w16, w32, w64, to_le_bytes}
use Rattle.elf_object.specs.declared.object.Section.{Section}
use Rattle.elf_object.specs.declared.object.Object.{Object}
use Rattle.elf_object.specs.Standard.{ELFMAG, ELFCLASS64, ELFDATA2LSB, EV_CURRENT, ELFOSABI_NONE, ET_REL, EM_RISCV, SHT_STRTAB, EHDR_SIZE, SHDR_SIZE}

-- the number of bytes from an offset up to the next multiple of 8
abbrev pub padding : ℕ → ℕ
padding at = (8 - at % 8) % 8

-- the next multiple of 8
abbrev pub aligned : ℕ → ℕ
aligned at = at + padding at

-- a string of a string table: its bytes, and a zero byte ("String Table")
abbrev pub text : List ℕ → List ℕ
text name = name ++ 0 ∷ []

-- a string table: a zero byte, and the strings in order. No two share bytes
abbrev pub string_table : List (List ℕ) → List ℕ
string_table names = 0 ∷ flat_map text names

-- the sections' names, in order
abbrev pub names_of : List Section → List (List ℕ)
names_of sections = map (λ s. s.name) sections

-- the section of the sections' names, its own included
abbrev pub section_names : List Section → Section
section_names sections = record {
  name = codes ".shstrtab";
  section_type = SHT_STRTAB;
  flags = 0;
  link = 0;
  info = 0;
  alignment = 1;
  entry_size = 0;
  bytes = string_table (names_of sections ++ codes ".shstrtab" ∷ []);
}

-- an object's sections after the null one: its own, and that of their names
abbrev pub all_sections : Object → List Section
all_sections o = o.sections ++ section_names o.sections ∷ []

-- the sections' bytes from an offset on: each after zero bytes up to the next multiple of 8
abbrev pub contents : (at : ℕ) → List Section → List ℕ
contents at [] = []
contents at (s ∷ rest) = replicate (padding at) 0 ++ s.bytes ++ contents (aligned at + length s.bytes) rest

-- a section's header (Elf64_Shdr, "Section Header"), with the offset of its name in the table of names and its own in the file
unfoldable pub section_header : (name_at offset : ℕ) → Section → List ℕ
section_header name_at offset s =
    to_le_bytes w32 name_at ++ to_le_bytes w32 s.section_type ++ to_le_bytes w64 s.flags ++ to_le_bytes w64 0
    ++ to_le_bytes w64 offset ++ to_le_bytes w64 (length s.bytes) ++ to_le_bytes w32 s.link ++ to_le_bytes w32 s.info
    ++ to_le_bytes w64 s.alignment ++ to_le_bytes w64 s.entry_size

-- the sections' headers, with the offset of the first one's name, and the offset in the file after which its bytes begin
abbrev pub headers : (name_at at : ℕ) → List Section → List ℕ
headers name_at at [] = []
headers name_at at (s ∷ rest) =
    section_header name_at (aligned at) s ++ headers (name_at + length (text s.name)) (aligned at + length s.bytes) rest

-- the ELF header (Elf64_Ehdr, "ELF Header"): without an entry point and program headers, with the offset of the section header
-- table and the number of its entries, of which the last is that of the sections' names
unfoldable pub file_header : (flags table count : ℕ) → List ℕ
file_header flags table count =
    ELFMAG ++ (ELFCLASS64 ∷ ELFDATA2LSB ∷ EV_CURRENT ∷ ELFOSABI_NONE ∷ []) ++ replicate 8 0
    ++ to_le_bytes w16 ET_REL ++ to_le_bytes w16 EM_RISCV ++ to_le_bytes w32 EV_CURRENT
    ++ to_le_bytes w64 0 ++ to_le_bytes w64 0 ++ to_le_bytes w64 table
    ++ to_le_bytes w32 flags ++ to_le_bytes w16 EHDR_SIZE ++ to_le_bytes w16 0 ++ to_le_bytes w16 0
    ++ to_le_bytes w16 SHDR_SIZE ++ to_le_bytes w16 count ++ to_le_bytes w16 (count - 1)

-- a file of these sections: the ELF header, the sections' bytes, zero bytes up to the next multiple of 8, and the headers, of
-- which the first is zero: that of the null section, SHN_UNDEF
abbrev pub file : (flags : ℕ) → List Section → List ℕ
file flags sections =
    file_header flags (aligned (EHDR_SIZE + length (contents EHDR_SIZE sections))) (length sections + 1)
    ++ contents EHDR_SIZE sections ++ replicate (padding (EHDR_SIZE + length (contents EHDR_SIZE sections))) 0
    ++ replicate SHDR_SIZE 0 ++ headers 1 EHDR_SIZE sections

-- an object
unfoldable pub spelling : Object → List ℕ
spelling o = file o.flags (all_sections o)
