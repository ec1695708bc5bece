-- The first wrong field of a file. Fields are judged in this order: those of the ELF header; those of the null section's header; for
-- each section those of its header and then the bytes between the section before and its own; and after the section of the sections'
-- names its strings and the bytes up to the section header table (System V gABI, chapter 4). Where a section lies, and where its name
-- does, is told by the header before its own, which is right by then.
use Rattle.std.specs.Prelude.{◌≡◌, ℕ, zero, suc, ◌+◌, ◌-◌, ◌*◌, ◌%◌, ◌^◌, ◌<◌, Bool, Option, Some, None, List, [], ◌∷◌, ◌++◌, take, drop, length}
use Rattle.std.specs.Prelude.{replicate, codes, ◌==◌, nat_eq, nat_lt, nat_le, ◌&&◌, if◌then◌else◌}
use Rattle.std.specs.List.{starts_with, position_or_len}
use Rattle.std.specs.Int.{w16, w32, w64, to_le_bytes}
use Rattle.elf_object.specs.Standard.{SHT_STRTAB, SHN_LORESERVE, EHDR_SIZE, SHDR_SIZE}
use Rattle.elf_object.specs.Spelling.{padding, aligned, text, file_header}
use Rattle.elf_object.specs.Grammar.{is_alignment}
use Rattle.elf_object.specs.Sections.{number_at}

-- ---- fields, each with the offset of its first byte as its fault

-- the first of faults in order
abbrev pub first : List (Option ℕ) → Option ℕ
first [] = None
first (None ∷ faults) = first faults
first (Some at ∷ faults) = Some at

-- a field at an offset that is right or not
abbrev pub judged : (at : ℕ) → (right : Bool) → Option ℕ
judged at right = if right then None else Some at

-- fields of these sizes from an offset on, of which each has one right value: together these bytes
abbrev pub constants : (at : ℕ) (sizes right bytes : List ℕ) → Option ℕ
constants at [] right bytes = None
constants at (n ∷ sizes) right bytes =
    if starts_with nat_eq bytes (take n right) then constants (at + n) sizes (drop n right) (drop n bytes) else Some at

-- bytes from an offset on that are zero up to the next multiple of 8
unfoldable pub zeros : (at : ℕ) (bytes : List ℕ) → Option ℕ
zeros at bytes = constants at (replicate (padding at) 1) (replicate (padding at) 0) (drop at bytes)

-- ---- the ELF header, and the null section's

-- the offset of the section header table (e_shoff), the number of its entries (e_shnum), and the processor's flags (e_flags)
abbrev pub table_in : List ℕ → ℕ
table_in bytes = number_at w64 40 bytes

abbrev pub count_in : List ℕ → ℕ
count_in bytes = number_at w16 60 bytes

abbrev pub flags_in : List ℕ → ℕ
flags_in bytes = number_at w32 48 bytes

-- the section header table ends the file, behind the ELF header and at a multiple of 8
unfoldable pub ends_file : List ℕ → Bool
ends_file bytes = table_in bytes + SHDR_SIZE * count_in bytes == length bytes && (nat_le EHDR_SIZE (table_in bytes) && table_in bytes % 8 == 0)

-- there are the null section and that of the names, and the number isn't reserved
abbrev pub is_count : ℕ → Bool
is_count n = nat_le 2 n && nat_lt n SHN_LORESERVE

-- the ELF header that the file is to have
abbrev pub right_header : List ℕ → List ℕ
right_header bytes = file_header (flags_in bytes) (table_in bytes) (count_in bytes)

-- e_ident up to e_phoff
unfoldable pub front_fault : List ℕ → Option ℕ
front_fault bytes =
    constants 0 (4 ∷ 1 ∷ 1 ∷ 1 ∷ 1 ∷ 1 ∷ 1 ∷ 1 ∷ 1 ∷ 1 ∷ 1 ∷ 1 ∷ 1 ∷ 2 ∷ 2 ∷ 4 ∷ 8 ∷ 8 ∷ []) (take 40 (right_header bytes)) bytes

-- e_ehsize up to e_shentsize
unfoldable pub sizes_fault : List ℕ → Option ℕ
sizes_fault bytes = constants 52 (2 ∷ 2 ∷ 2 ∷ 2 ∷ []) (take 8 (drop 52 (right_header bytes))) (drop 52 bytes)

-- e_shstrndx
unfoldable pub index_fault : List ℕ → Option ℕ
index_fault bytes = constants 62 (2 ∷ []) (drop 62 (right_header bytes)) (drop 62 bytes)

-- these, with e_shoff and e_shnum in their places
unfoldable pub file_fault : List ℕ → Option ℕ
file_fault bytes =
    first (front_fault bytes ∷ judged 40 (ends_file bytes) ∷ sizes_fault bytes ∷ judged 60 (is_count (count_in bytes)) ∷ index_fault bytes ∷ [])

-- the fields of a section header (Elf64_Shdr) are zero
unfoldable pub null_fault : List ℕ → Option ℕ
null_fault bytes =
    constants (table_in bytes) (4 ∷ 4 ∷ 8 ∷ 8 ∷ 8 ∷ 8 ∷ 4 ∷ 4 ∷ 8 ∷ 8 ∷ []) (replicate SHDR_SIZE 0) (drop (table_in bytes) bytes)

-- ---- a section, by the header at an offset in the file

-- the offset of its name in the section of the sections' names, and that behind the name's zero byte
abbrev pub name_in : (header : ℕ) → List ℕ → ℕ
name_in header bytes = number_at w32 header bytes

abbrev pub name_end : (names : List ℕ) (header : ℕ) → List ℕ → ℕ
name_end names header bytes = name_in header bytes + position_or_len (λ b. b == 0) (drop (name_in header bytes) names) + 1

-- the offset of its bytes in the file, their number, and the offset behind them
abbrev pub offset_in : (header : ℕ) → List ℕ → ℕ
offset_in header bytes = number_at w64 (header + 24) bytes

abbrev pub size_in : (header : ℕ) → List ℕ → ℕ
size_in header bytes = number_at w64 (header + 32) bytes

abbrev pub bytes_end : (header : ℕ) → List ℕ → ℕ
bytes_end header bytes = offset_in header bytes + size_in header bytes

-- the name begins at an offset, and is closed
unfoldable pub is_name_at : (names : List ℕ) (header name_at : ℕ) → List ℕ → Bool
is_name_at names header name_at bytes = name_in header bytes == name_at && nat_le (name_end names header bytes) (length names)

-- a section whose name begins at an offset, and before which the bytes of sections end at another: sh_name, sh_addr, sh_offset,
-- sh_size, sh_addralign, and the bytes up to its own
unfoldable pub section_fault : (names : List ℕ) (table header name_at at : ℕ) → List ℕ → Option ℕ
section_fault names table header name_at at bytes =
    first (
    judged header (is_name_at names header name_at bytes)
    ∷ judged (header + 16) (number_at w64 (header + 16) bytes == 0)
    ∷ judged (header + 24) (offset_in header bytes == aligned at)
    ∷ judged (header + 32) (nat_le (bytes_end header bytes) table)
    ∷ judged (header + 48) (is_alignment (number_at w64 (header + 48) bytes))
    ∷ zeros at bytes
    ∷ [])

-- the size of the section of the sections' names: its bytes end with its own name, and then the section header table is next
unfoldable pub is_names_size : (table header : ℕ) → List ℕ → Bool
is_names_size table header bytes =
    size_in header bytes == name_in header bytes + length (text (codes ".shstrtab"))
    && (nat_lt (size_in header bytes) (2 ^ 32) && aligned (bytes_end header bytes) == table)

-- its type, flags and address
unfoldable pub type_fault : (header : ℕ) → List ℕ → Option ℕ
type_fault header bytes = constants (header + 4) (4 ∷ 8 ∷ 8 ∷ []) (to_le_bytes w32 SHT_STRTAB ++ replicate 16 0) (drop (header + 4) bytes)

-- its link, info, alignment and entry size
unfoldable pub link_fault : (header : ℕ) → List ℕ → Option ℕ
link_fault header bytes =
    constants (header + 40) (4 ∷ 4 ∷ 8 ∷ 8 ∷ []) (replicate 8 0 ++ to_le_bytes w64 1 ++ replicate 8 0) (drop (header + 40) bytes)

-- its bytes from an offset on: the first, and its own name
unfoldable pub start_fault : (offset : ℕ) → List ℕ → Option ℕ
start_fault offset bytes = constants offset (1 ∷ []) (0 ∷ []) (drop offset bytes)

unfoldable pub own_fault : (offset : ℕ) → List ℕ → Option ℕ
own_fault offset bytes = constants offset (replicate 10 1) (text (codes ".shstrtab")) (drop offset bytes)

-- the section of the sections' names: its header, all of it; the bytes up to its own; of these the first, and its own name; and the
-- bytes up to the section header table
unfoldable pub names_fault : (table header name_at at : ℕ) → List ℕ → Option ℕ
names_fault table header name_at at bytes =
    first (
    judged header (name_in header bytes == name_at) ∷ type_fault header bytes ∷ judged (header + 24) (offset_in header bytes == aligned at)
    ∷ judged (header + 32) (is_names_size table header bytes) ∷ link_fault header bytes ∷ zeros at bytes
    ∷ start_fault (offset_in header bytes) bytes ∷ own_fault (offset_in header bytes + name_at) bytes ∷ zeros (bytes_end header bytes) bytes ∷ [])

-- ---- the file

-- the offset of the header after that of an index
abbrev pub header_after : (bytes : List ℕ) (index : ℕ) → ℕ
header_after bytes index = table_in bytes + SHDR_SIZE * suc index

-- the bytes of the last section, as its header tells
abbrev pub names_in : List ℕ → List ℕ
names_in bytes =
    let header : ℕ = table_in bytes + SHDR_SIZE * (count_in bytes - 1) in
    take (size_in header bytes) (drop (offset_in header bytes) bytes)

-- where the names, and the bytes, of the sections up to an index end. The null section has neither
abbrev pub names_end : (bytes : List ℕ) (index : ℕ) → ℕ
names_end bytes zero = 1
names_end bytes (suc index) = name_end (names_in bytes) (header_after bytes index) bytes

abbrev pub sections_end : (bytes : List ℕ) (index : ℕ) → ℕ
sections_end bytes zero = EHDR_SIZE
sections_end bytes (suc index) = bytes_end (header_after bytes index) bytes

-- the section after that of an index, if it isn't the last, and if it is
abbrev pub fault_after : (bytes : List ℕ) (index : ℕ) → Option ℕ
fault_after bytes index =
    section_fault (names_in bytes) (table_in bytes) (header_after bytes index) (names_end bytes index) (sections_end bytes index) bytes

abbrev pub last_fault_after : (bytes : List ℕ) (index : ℕ) → Option ℕ
last_fault_after bytes index =
    names_fault (table_in bytes) (header_after bytes index) (names_end bytes index) (sections_end bytes index) bytes

-- the headers are right that belong to no section, and so are the sections up to an index
pub record AreRight (bytes : List ℕ) (index : ℕ) : Type 0 where
  pub file : file_fault bytes ≡ None
  pub null : null_fault bytes ≡ None
  pub sections : (k : ℕ) → k < index → fault_after bytes k ≡ None

-- the first wrong field begins at this byte
pub data FirstFault (bytes : List ℕ) (at : ℕ) : Type 0 where
  InFileHeader : file_fault bytes ≡ Some at → FirstFault bytes at
  InNullHeader : file_fault bytes ≡ None → null_fault bytes ≡ Some at → FirstFault bytes at
  InSection : (index : ℕ) → AreRight bytes index → index + 2 < count_in bytes → fault_after bytes index ≡ Some at → FirstFault bytes at
  InNames : AreRight bytes (count_in bytes - 2) → last_fault_after bytes (count_in bytes - 2) ≡ Some at → FirstFault bytes at

-- no field is wrong
pub record IsRight (bytes : List ℕ) : Type 0 where
  pub before : AreRight bytes (count_in bytes - 2)
  pub names : last_fault_after bytes (count_in bytes - 2) ≡ None
