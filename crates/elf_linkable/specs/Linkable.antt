-- An object that a linker places: sections with their relocations, and symbols (System V gABI, chapter 4, "Sections", "Symbol Table" and "Relocation").
use Rattle.std.specs.Prelude.{◌≡◌, ℕ, suc, ◌+◌, Bool, nat_lt, List, [], ◌∷◌, ◌++◌, length, map, codes, take, count_by, All}
use Rattle.elf_object.specs.declared.object.Section.{Section}
use Rattle.elf_object.specs.declared.object.Object.{Object}
use Rattle.elf_object.specs.declared.relocations.Relocation.{Relocation}
use Rattle.elf_object.specs.declared.symbols.Symbol.{Symbol}
use Rattle.elf_object.specs.declared.symbols.Binding.TheVariants.{Local}
use Rattle.elf_object.specs.declared.symbols.SymbolType.TheVariants.{Section as OfSection}
use Rattle.elf_object.specs.Standard.{SHT_PROGBITS, SHT_RELA, SHT_SYMTAB, SHT_STRTAB, SHF_INFO_LINK, SYM_SIZE, RELA_SIZE}
use Rattle.elf_object.specs.Grammar.{IsObject}
use Rattle.elf_object.specs.Relocations.{relocation_table, FitsRelocation}
use Rattle.elf_object.specs.Symbols.{symbol_table, symbol_names, first_global, AreSymbols}
use Rattle.elf_linkable.specs.declared.section.LinkableSection.{LinkableSection}

-- ---- symbols

-- the symbol of the section of an index, which has no name
abbrev pub section_symbol : (index : ℕ) → Symbol
section_symbol k = record { name = []; binding = Local; symbol_type = OfSection; section = k; value = 0; size = 0 }

-- those of sections, the first of which has an index. So the symbol of a section has the section's index for its number
abbrev pub section_symbols : (index : ℕ) → List LinkableSection → List Symbol
section_symbols k [] = []
section_symbols k (s ∷ rest) = section_symbol k ∷ section_symbols (suc k) rest

-- ---- sections

-- a section without its relocations
abbrev pub content_section : LinkableSection → Section
content_section s = record {
  name = s.name;
  section_type = SHT_PROGBITS;
  flags = s.flags;
  link = 0;
  info = 0;
  alignment = s.alignment;
  entry_size = 0;
  bytes = s.content.bytes;
}

-- the relocations of the section of an index, by the symbol table of an index
abbrev pub relocation_section : (table index : ℕ) (name : List ℕ) → List Relocation → Section
relocation_section table k name relocations = record {
  name = codes ".rela" ++ name;
  section_type = SHT_RELA;
  flags = SHF_INFO_LINK;
  link = table;
  info = k;
  alignment = 8;
  entry_size = RELA_SIZE;
  bytes = relocation_table relocations;
}

-- no section where there are no relocations
abbrev pub relocation_section_if : (table index : ℕ) (name : List ℕ) → List Relocation → List Section
relocation_section_if table k name [] = []
relocation_section_if table k name (r ∷ rest) = relocation_section table k name (r ∷ rest) ∷ []

-- those of sections, the first of which has an index
abbrev pub relocation_sections : (table index : ℕ) → List LinkableSection → List Section
relocation_sections table k [] = []
relocation_sections table k (s ∷ rest) = relocation_section_if table k s.name s.content.relocations ++ relocation_sections table (suc k) rest

-- the section that says that the code needs no executable stack: it has no bytes
abbrev pub stack_section : Section
stack_section = record {
  name = codes ".note.GNU-stack";
  section_type = SHT_PROGBITS;
  flags = 0;
  link = 0;
  info = 0;
  alignment = 1;
  entry_size = 0;
  bytes = [];
}

-- symbols, whose names are in the section of an index
abbrev pub symbol_section : (names : ℕ) → List Symbol → Section
symbol_section names symbols = record {
  name = codes ".symtab";
  section_type = SHT_SYMTAB;
  flags = 0;
  link = names;
  info = first_global symbols;
  alignment = 8;
  entry_size = SYM_SIZE;
  bytes = symbol_table symbols;
}

-- the symbols' names
abbrev pub name_section : List Symbol → Section
name_section symbols = record {
  name = codes ".strtab";
  section_type = SHT_STRTAB;
  flags = 0;
  link = 0;
  info = 0;
  alignment = 1;
  entry_size = 0;
  bytes = symbol_names symbols;
}

-- a section that has relocations
abbrev pub is_relocated : LinkableSection → Bool
is_relocated s = nat_lt 0 (length s.content.relocations)

-- the index of the symbol table: behind the sections, those of their relocations, and that of the stack
abbrev pub table_index : List LinkableSection → ℕ
table_index sections = length sections + count_by is_relocated sections + 2

-- ---- the object

-- the sections in order, those of their relocations, that of the stack, and the symbols
abbrev pub object_of : (flags : ℕ) → List LinkableSection → List Symbol → Object
object_of flags sections symbols = record {
  flags = flags;
  sections = map content_section sections ++ relocation_sections (table_index sections) 1 sections
      ++ stack_section ∷ symbol_section (suc (table_index sections)) symbols ∷ name_section symbols ∷ [];
}

-- the symbols begin with those of the sections
abbrev pub HaveSectionSymbols : List LinkableSection → List Symbol → Type 0
HaveSectionSymbols sections symbols = take (length sections) symbols ≡ section_symbols 1 sections

-- the bytes are the file of these sections and symbols, whose fields fit
pub record IsLinkableFile (flags : ℕ) (sections : List LinkableSection) (symbols : List Symbol) (bytes : List ℕ) : Type 0 where
  pub object : IsObject (object_of flags sections symbols) bytes
  pub relocations : All (λ s. All FitsRelocation s.content.relocations) sections
  pub symbols_are : AreSymbols symbols (symbol_table symbols) (symbol_names symbols)
