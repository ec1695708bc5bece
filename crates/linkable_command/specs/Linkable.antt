-- The object of an output that a linker places (System V gABI, chapter 4, and RISC-V ELF psABI): its sections with their relocations, and its symbols.
use Rattle.std.specs.Prelude.{ℕ, ◌+◌, ◌<◌, ◌≤◌, ◌^◌, List, [], ◌∷◌, ◌++◌, length, codes, All, Option, Some, None, IfSome}
use Rattle.dwarf_frame.specs.declared.table.FrameDescription.{FrameDescription}
use Rattle.dwarf_frame.specs.Spelling.{spelling as frame_spelling}
use Rattle.dwarf_frame.specs.Table.{IsDescription}
use Rattle.dwarf_line.specs.Table.{HasNames, IsSequence}
use Rattle.listing_text.specs.declared.output.ListedFunction.{ListedFunction}
use Rattle.listing_text.specs.declared.output.Output.{Output}
use Rattle.elf_object.specs.declared.relocations.Relocation.{Relocation}
use Rattle.elf_object.specs.declared.symbols.Symbol.{Symbol}
use Rattle.elf_object.specs.Spelling.{spelling}
use Rattle.elf_object.specs.Standard.{SHF_ALLOC, SHF_EXECINSTR}
use Rattle.elf_content.specs.declared.content.Content.{Content}
use Rattle.elf_content.specs.declared.piece.Piece.{Piece}
use Rattle.elf_content.specs.Content.{written, relocations_from}
use Rattle.elf_linkable.specs.declared.section.LinkableSection.{LinkableSection}
use Rattle.elf_linkable.specs.Linkable.{object_of, section_symbols, IsLinkableFile}
use Rattle.debug_placement.specs.Frames.{frame_pieces}
use Rattle.prologue_lines.specs.Pieces.{line_pieces}
use Rattle.prologue_lines.specs.Spelling.{spelling as rows_spelling}
use Rattle.entry_placement.specs.declared.content.SectionSymbols.{SectionSymbols}
use Rattle.entry_placement.specs.Pieces.{unit_pieces}
use Rattle.entry_placement.specs.dwarf_entry.declared.tree.TreeItem.{TreeItem}
use Rattle.entry_placement.specs.dwarf_entry.Declarations.{abbreviations_of, abbreviation_section}
use Rattle.entry_placement.specs.dwarf_entry.Entries.{spelling as entries_spelling, RefersWithin}
use Rattle.object_command.specs.Object.{IsSymbolName}
use Rattle.linkable_command.specs.declared.tables.DebugTables.{DebugTables}
use Rattle.linkable_command.specs.References.{references}
use Rattle.linkable_command.specs.Symbols.{named_symbols, code_relocations}

-- ---- the indices of sections, which are the numbers of their symbols

abbrev pub TEXT : ℕ
TEXT = 1

abbrev pub ABBREVIATIONS : ℕ
ABBREVIATIONS = 2

abbrev pub ENTRIES : ℕ
ENTRIES = 3

abbrev pub ROWS : ℕ
ROWS = 4

abbrev pub LISTS : ℕ
LISTS = 5

abbrev pub FRAME : ℕ
FRAME = 6

-- the sections, with and without `.debug_frame`
abbrev pub section_count : Option (List FrameDescription) → ℕ
section_count None = 6
section_count (Some functions) = 7

-- those to which debugging information entries refer: range lists stand last
abbrev pub unit_sections : Option (List FrameDescription) → SectionSymbols
unit_sections frames =
    record { text = TEXT; abbreviations = ABBREVIATIONS; lines = ROWS; location_lists = LISTS; range_lists = section_count frames }

-- ---- sections

-- the content that pieces make
abbrev pub content_of : List Piece → Content
content_of pieces = record { bytes = written pieces; relocations = relocations_from 0 pieces }

-- bytes that no relocation changes
abbrev pub plain_content : List ℕ → Content
plain_content bytes = record { bytes = bytes; relocations = [] }

-- machine code with its relocations
abbrev pub text_section : List ℕ → List Relocation → LinkableSection
text_section bytes relocations = record {
  name = codes ".text";
  flags = SHF_ALLOC + SHF_EXECINSTR;
  alignment = 4;
  content = record { bytes = bytes; relocations = relocations };
}

abbrev pub debug_section : (name : List ℕ) → Content → LinkableSection
debug_section name content = record { name = name; flags = 0; alignment = 1; content = content }

-- The registers whose values a function may lose (RISC-V ELF psABI, "Integer Register Convention": those that aren't preserved across calls, but for ra,
-- which the rules of a frame give back): a debugger that unwinds to a caller doesn't know them there.
abbrev pub LOST : List ℕ
LOST = 5 ∷ 6 ∷ 7 ∷ 10 ∷ 11 ∷ 12 ∷ 13 ∷ 14 ∷ 15 ∷ 16 ∷ 17 ∷ 28 ∷ 29 ∷ 30 ∷ 31 ∷ []

abbrev pub frame_sections : Option (List FrameDescription) → List LinkableSection
frame_sections None = []
frame_sections (Some functions) = debug_section (codes ".debug_frame") (content_of (frame_pieces FRAME TEXT LOST functions)) ∷ []

-- the pieces of a tree of entries
abbrev pub entry_pieces : DebugTables → List Piece
entry_pieces t = unit_pieces (unit_sections t.frames) (abbreviations_of t.entries) t.entries

-- the section of a tree of entries, by its own abbreviations
abbrev pub entry_bytes : List TreeItem → List ℕ
entry_bytes tree = entries_spelling (abbreviations_of tree) tree

-- its abbreviations
abbrev pub declaration_section : DebugTables → LinkableSection
declaration_section t = debug_section (codes ".debug_abbrev") (plain_content (abbreviation_section (abbreviations_of t.entries)))

-- the tree itself
abbrev pub entry_section : DebugTables → LinkableSection
entry_section t = debug_section (codes ".debug_info") (content_of (entry_pieces t))

abbrev pub sections_by : (relocations : List Relocation) → (text lists : List ℕ) → DebugTables → List LinkableSection
sections_by relocations text lists t =
    text_section text relocations ∷ declaration_section t ∷ entry_section t ∷ debug_section (codes ".debug_line") (content_of (line_pieces TEXT t.rows))
    ∷ debug_section (codes ".debug_loclists") (plain_content lists)
    ∷ (frame_sections t.frames ++ debug_section (codes ".debug_rnglists") (plain_content t.ranges) ∷ [])

-- the relocations of an output's machine code
abbrev pub output_relocations : Output → DebugTables → List Relocation
output_relocations o t = code_relocations (section_count t.frames) t.linkages o.functions

-- the sections of an output, with these location lists
abbrev pub sections_of : Output → (lists : List ℕ) → DebugTables → List LinkableSection
sections_of o lists t = sections_by (output_relocations o t) o.text lists t

-- the symbols: those of the sections, and those of functions, with the bindings of their linkages, and of other names
abbrev pub symbols_of : Output → (lists : List ℕ) → DebugTables → List Symbol
symbols_of o lists t = section_symbols 1 (sections_of o lists t) ++ named_symbols t.linkages o.functions

-- ---- the object

-- Each function's name, and each name to which code refers, can be a symbol's.
pub record HaveLinkableNames (functions : List ListedFunction) : Type 0 where
  pub defined : All (λ f. IsSymbolName f.name) functions
  pub referred : All (λ r. IsSymbolName r.name) (references functions)

-- the bytes are the object of the output
pub record IsLinkableObject (flags : ℕ) (o : Output) (lists : List ℕ) (t : DebugTables) (bytes : List ℕ) : Type 0 where
  pub names : HaveLinkableNames o.functions
  pub file : IsLinkableFile flags (sections_of o lists t) (symbols_of o lists t) bytes

-- the object of the output would have 2^31 bytes or more
pub record HasLargeLinkable (flags : ℕ) (o : Output) (lists : List ℕ) (t : DebugTables) : Type 0 where
  pub names : HaveLinkableNames o.functions
  pub large : 2 ^ 31 ≤ length (spelling (object_of flags (sections_of o lists t) (symbols_of o lists t)))

-- the contents of debug sections can be written
pub record AreWritable (t : DebugTables) : Type 0 where
  pub references : RefersWithin t.entries
  pub info : length (entry_bytes t.entries) < 2 ^ 31
  pub names : HasNames t.rows
  pub sequences : All IsSequence t.rows.sequences
  pub rows : length (rows_spelling t.rows) < 2 ^ 31
  pub frames : IfSome t.frames (All IsDescription)
  pub frame : IfSome t.frames (λ functions. length (frame_spelling LOST functions) < 2 ^ 31)
