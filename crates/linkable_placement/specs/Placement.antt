-- What an object is where a linker places it (System V gABI, chapter 4, "Relocation", and RISC-V ELF psABI, "Relocations").
use Rattle.std.specs.Prelude.{◌≡◌, ℕ, ◌+◌, ◌-◌, ◌<◌, ◌^◌, List, length, map, cond, nat_eq, slice_index, All, Option, Some, None}
use Rattle.std.specs.List.{flat_map, position_or_len}
use Rattle.dwarf_frame.specs.declared.table.FrameDescription.{FrameDescription}
use Rattle.dwarf_line_table.specs.Files.{is_name}
use Rattle.listing_text.specs.declared.output.Output.{Output}
use Rattle.compile_theorem.specs.listing_meaning.Program.{image_of}
use Rattle.sem_machine.specs.Image.{CodeLine}
use Rattle.elf_object.specs.declared.symbols.Symbol.{Symbol}
use Rattle.elf_object.specs.Standard.{SHN_UNDEF}
use Rattle.elf_relocation.specs.Applied.{applied}
use Rattle.elf_content.specs.declared.content.Content.{Content}
use Rattle.elf_content.specs.Content.{symbol_address}
use Rattle.debug_placement.specs.Frames
use Rattle.debug_placement.specs.Frames.{frame_pieces, moved_description, spelling_by}
use Rattle.debug_placement.specs.Lines
use Rattle.debug_placement.specs.Lines.{moved_table}
use Rattle.prologue_lines.specs.Pieces.{line_pieces}
use Rattle.prologue_lines.specs.Spelling.{spelling as rows_spelling}
use Rattle.entry_placement.specs.Moved.{moved_tree, ItemFitsMoved}
use Rattle.entry_placement.specs.Pieces.{symbol_of}
use Rattle.entry_placement.specs.dwarf_entry.declared.tree.TreeItem.{TreeItem}
use Rattle.entry_placement.specs.dwarf_entry.Declarations.{abbreviations_of}
use Rattle.entry_placement.specs.dwarf_entry.Entries.{spelling_at}
use Rattle.text_placement.specs.Placed.{SymbolPlaces, PlacedLine, IsPlacedLine}
use Rattle.linkable_command.specs.declared.tables.DebugTables.{DebugTables}
use Rattle.linkable_command.specs.References.{symbol_name}
use Rattle.linkable_command.specs.Symbols.{named_symbols}
use Rattle.linkable_command.specs.Linkable.{TEXT, ABBREVIATIONS, ENTRIES, ROWS, FRAME, LOST, section_count, unit_sections, content_of, entry_pieces}
use Rattle.linkable_command.specs.Linkable.{output_relocations, symbols_of}

-- ---- a placement

-- the address of each section, in order, and that of each name that the object doesn't define
pub record Placement : Type 0 where
  pub sections : List ℕ
  pub names : List ℕ → ℕ

-- the address of the section of an index
abbrev pub base_of : Placement → (index : ℕ) → ℕ
base_of p k = slice_index p.sections (k - 1)

-- the address of a symbol
abbrev pub address_of : Placement → Symbol → ℕ
address_of p s = cond (nat_eq s.section SHN_UNDEF) (p.names s.name) (base_of p s.section + s.value)

-- the addresses of an object's symbols
abbrev pub addresses_of : Placement → Output → (lists : List ℕ) → DebugTables → List ℕ
addresses_of p o lists t = map (address_of p) (symbols_of o lists t)

-- the bytes of the section of an index after its relocations
abbrev pub placed_content : Placement → (addresses : List ℕ) → (index : ℕ) → Content → List ℕ
placed_content p addresses k c = applied (base_of p k) addresses c.relocations c.bytes

-- ---- code lines

-- where symbols are: a global is its name's symbol
abbrev pub places_of : (before : ℕ) → List Symbol → SymbolPlaces
places_of before named = record { number = λ s. before + (1 + position_or_len (λ x. is_name (symbol_name s) x.name) named); behind = λ s. 0 }

abbrev pub placed_line : SymbolPlaces → CodeLine → PlacedLine
placed_line places l = record { places = places; line = l }

-- the code lines of an output's functions, with the places of their symbols
abbrev pub placed_lines : SymbolPlaces → Output → List PlacedLine
placed_lines places o = flat_map (λ f. map (placed_line places) (image_of o f).lines) o.functions

-- those of an object
abbrev pub output_lines : Output → DebugTables → List PlacedLine
output_lines o t = placed_lines (places_of (section_count t.frames) (named_symbols t.linkages o.functions)) o

-- ---- what an object is there

-- the address of the section to which an attribute of a name refers
abbrev pub section_named : (addresses : List ℕ) → DebugTables → (name : ℕ) → ℕ
section_named addresses t name = symbol_address addresses (symbol_of (unit_sections t.frames) name)

-- the tree of entries there
abbrev pub moved_entries : (addresses : List ℕ) → DebugTables → List TreeItem
moved_entries addresses t = moved_tree (symbol_address addresses TEXT) (section_named addresses t) t.entries

-- the functions of `.debug_frame`, if there is one
abbrev pub FramesFit : (text frame : ℕ) → Option (List FrameDescription) → Type 0
FramesFit text frame None = Unit {0}
FramesFit text frame (Some functions) = (frame < 2 ^ 32) × All (Frames.EndsBelow text) functions

-- The addresses are below 2^64, and so is where code ends; and offsets in debug sections have 32 bits.
pub record Fits (p : Placement) (o : Output) (lists : List ℕ) (t : DebugTables) : Type 0 where
  pub symbols : (k : ℕ) → slice_index (addresses_of p o lists t) k < 2 ^ 64
  pub text : base_of p TEXT + length o.text < 2 ^ 64
  pub abbreviations : symbol_address (addresses_of p o lists t) ABBREVIATIONS < 2 ^ 32
  pub entries : All (ItemFitsMoved (symbol_address (addresses_of p o lists t) TEXT) (section_named (addresses_of p o lists t) t)) t.entries
  pub rows : All (Lines.EndsBelow (symbol_address (addresses_of p o lists t) TEXT)) t.rows.sequences
  pub frames : FramesFit (symbol_address (addresses_of p o lists t) TEXT) (symbol_address (addresses_of p o lists t) FRAME) t.frames

-- `.debug_frame`, if there is one, is that of the same functions, each address moved
abbrev pub FramesMoved : Placement → (addresses : List ℕ) → Option (List FrameDescription) → Type 0
FramesMoved p addresses None = Unit {0}
FramesMoved p addresses (Some functions) = placed_content p addresses FRAME (content_of (frame_pieces FRAME TEXT LOST functions))
    ≡ spelling_by (symbol_address addresses FRAME) LOST (map (moved_description (symbol_address addresses TEXT)) functions)

-- The sections of an object after their relocations. Each word of the code is the one that a machine runs in the environment of the placement, and the two
-- words for a function by its name go to it, if it is in range. The debug sections are those of the same entries, rows and functions, with each address moved
-- by where the code is, and each offset by where its section is. Moved entries have the same abbreviations.
pub record IsPlaced (p : Placement) (o : Output) (lists : List ℕ) (t : DebugTables) : Type 0 where
  pub lines : All (IsPlacedLine (base_of p TEXT) (addresses_of p o lists t) o.text
      (placed_content p (addresses_of p o lists t) TEXT (record { bytes = o.text; relocations = output_relocations o t }))) (output_lines o t)
  pub entries : placed_content p (addresses_of p o lists t) ENTRIES (content_of (entry_pieces t))
      ≡ spelling_at (symbol_address (addresses_of p o lists t) ABBREVIATIONS) (abbreviations_of t.entries) (moved_entries (addresses_of p o lists t) t)
  pub same : abbreviations_of (moved_entries (addresses_of p o lists t) t) ≡ abbreviations_of t.entries
  pub rows : placed_content p (addresses_of p o lists t) ROWS (content_of (line_pieces TEXT t.rows))
      ≡ rows_spelling (moved_table (symbol_address (addresses_of p o lists t) TEXT) t.rows)
  pub frames : FramesMoved p (addresses_of p o lists t) t.frames
