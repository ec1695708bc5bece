-- The object that a linker places of a program that was compiled.
use Rattle.std.specs.Prelude.{◌≡◌, ℕ, ◌≤◌, ◌⊎◌, Bool, true, List, [], length, map, All, IfSome, is_some}
use Rattle.std.specs.List.{AllZip}
use Rattle.dwarf_base.specs.Limits.{SECTION_LIMIT}
use Rattle.dwarf_line.specs.declared.table.LineTable.{LineTable}
use Rattle.prologue_lines.specs.Spelling.{spelling as rows_spelling}
use Rattle.program_rows.specs.Program.{IsTableOf}
use Rattle.dwarf_loclists.specs.declared.range.Range.{Range}
use Rattle.sized_lists.specs.Grammar.{IsSizedSection}
use Rattle.sized_lists.specs.Sized.{sized}
use Rattle.sized_lists.specs.Spelling.{spelling as lists_spelling}
use Rattle.dwarf_rnglists.specs.Grammar.{IsSection as AreRanges}
use Rattle.dwarf_rnglists.specs.Spelling.{spelling as ranges_spelling}
use Rattle.read_types.specs.Types.{types_of}
use Rattle.program_entries.specs.Program.{program_unit}
use Rattle.typed_unit.specs.Typed.{HasType}
use Rattle.typed_unit.specs.Unit.{IsTypedTree}
use Rattle.variable_sizes.specs.Sizes.{AreListSizes}
use Rattle.dwarf_sections.specs.dwarf_line_table.declared.source_and_code.SourceAndCode.{SourceAndCode}
use Rattle.dwarf_sections.specs.Frame.{IsLargeFrameSection}
use Rattle.frame_table.specs.Table.{Describes}
use Rattle.read_metadata.specs.Maps.{Maps}
use Rattle.read_debug_nodes.specs.Maps.{DebugMaps}
use Rattle.read_debug_nodes.specs.Metadata.{debug_metadata}
use Rattle.read_metadata.specs.read_lexer.declared.line.Line.{Line}
use Rattle.linkable_command.specs.read_linkage.Lines.{linkages_of}
use Rattle.kept_lists.specs.Kept.{AllKept}
use Rattle.compile_program.specs.read_program.declared.program.Program.{Program}
use Rattle.compile_program.specs.declared.compile.Compilation.{Compilation}
use Rattle.linkable_command.specs.declared.tables.DebugTables.{DebugTables}
use Rattle.linkable_command.specs.entry_placement.dwarf_entry.declared.tree.TreeItem.{TreeItem}
use Rattle.linkable_command.specs.Linkable.{LOST, entry_bytes, AreWritable, HasLargeLinkable, IsLinkableObject}

-- ---- the contents of debug sections

-- the tree is that of the entries of functions, with so many bytes of code, which tell the frame base of each function where there is `.debug_frame`
abbrev pub IsTreeOf : DebugMaps → Maps → (text_len : ℕ) → (with_frame : Bool) → List SourceAndCode → List TreeItem → Type 0
IsTreeOf debug meta text_len with_frame compiled tree = IsTypedTree (types_of debug) (program_unit debug meta text_len with_frame compiled) tree

-- the sizes are those of the variables of so many location lists, by the types of the unit
abbrev pub AreSizesOf : DebugMaps → Maps → (text_len : ℕ) → (with_frame : Bool) → List SourceAndCode → (count : ℕ) → List ℕ → Type 0
AreSizesOf debug meta text_len with_frame compiled count sizes =
    AreListSizes (types_of debug) count (program_unit debug meta text_len with_frame compiled) sizes

-- The contents are those of the debug sections of functions, with so many bytes of code: the tree of entries of their unit, in which each parameter and each
-- variable has a type, the rows of their lines, the call frame information of their code, if it is asked for, and no range lists; and the linkages of functions
-- are those that the lines of the IR block say.
pub record AreTables (lines : List Line) (meta : Maps) (text_len : ℕ) (with_frame : Bool) (compiled : List SourceAndCode) (t : DebugTables) : Type 0 where
  pub entries : IsTreeOf (debug_metadata lines) meta text_len with_frame compiled t.entries
  pub typed : All HasType t.entries
  pub rows : IsTableOf (debug_metadata lines) meta compiled t.rows
  pub present : is_some t.frames ≡ with_frame
  pub frames : IfSome t.frames (AllZip Describes (map (λ c. c.code.now) compiled))
  pub ranges : AreRanges t.ranges []
  pub linkages : t.linkages ≡ linkages_of lines
  pub writable : AreWritable t

-- the section of this tree would have 2^31 bytes or more
pub record AreEntriesLarge (debug : DebugMaps) (meta : Maps) (text_len : ℕ) (with_frame : Bool) (compiled : List SourceAndCode) : Type 0 where
  pub tree : List TreeItem
  pub is : IsTreeOf debug meta text_len with_frame compiled tree
  pub large : SECTION_LIMIT ≤ length (entry_bytes tree)

-- the section of these rows would have 2^31 bytes or more
pub record AreRowsLarge (debug : DebugMaps) (meta : Maps) (compiled : List SourceAndCode) : Type 0 where
  pub rows : LineTable
  pub are : IsTableOf debug meta compiled rows
  pub large : SECTION_LIMIT ≤ length (rows_spelling rows)

-- a section of these would have 2^31 bytes or more
abbrev pub AreTablesLarge : List Line → Maps → (text_len : ℕ) → (with_frame : Bool) → List SourceAndCode → Type 0
AreTablesLarge lines meta text_len with_frame compiled =
    AreEntriesLarge (debug_metadata lines) meta text_len with_frame compiled ⊎ (AreRowsLarge (debug_metadata lines) meta compiled
    ⊎ (((with_frame ≡ true) × IsLargeFrameSection LOST (map (λ c. c.code.now) compiled)) ⊎ (SECTION_LIMIT ≤ length (ranges_spelling []))))

-- ---- of a program

-- the functions that were read, each with the machine code that was made of it
pub record AreCompiledOf (p : Program) (c : Compilation) (compiled : List SourceAndCode) : Type 0 where
  pub sources : map (λ x. x.source.now) compiled ≡ map (λ f. f.func) p.functions
  pub codes : map (λ x. x.code.now) compiled ≡ map (λ f. f.code) c.functions

pub record AreTablesOf (lines : List Line) (p : Program) (c : Compilation) (with_frame : Bool) (t : DebugTables) : Type 0 where
  pub compiled : List SourceAndCode
  pub of : AreCompiledOf p c compiled
  pub are : AreTables lines p.meta (length c.output.text) with_frame compiled t

pub record AreTablesOfLarge (lines : List Line) (p : Program) (c : Compilation) (with_frame : Bool) : Type 0 where
  pub compiled : List SourceAndCode
  pub of : AreCompiledOf p c compiled
  pub large : AreTablesLarge lines p.meta (length c.output.text) with_frame compiled

-- the sizes are those of the variables of so many location lists of a program
pub record AreListSizesOf (lines : List Line) (p : Program) (c : Compilation) (with_frame : Bool) (count : ℕ) (sizes : List ℕ) : Type 0 where
  pub compiled : List SourceAndCode
  pub of : AreCompiledOf p c compiled
  pub are : AreSizesOf (debug_metadata lines) p.meta (length c.output.text) with_frame compiled count sizes

-- the bytes encode the location lists that are true in every frame, of the functions' variables, and tell of each variable by its size which bytes have no place
pub record AreListsOf (lines : List Line) (p : Program) (c : Compilation) (with_frame : Bool) (bytes : List ℕ) : Type 0 where
  pub lists : List (List Range)
  pub kept : AllKept c.functions c.output.functions lists
  pub sizes : List ℕ
  pub sized_by : AreListSizesOf lines p c with_frame (length lists) sizes
  pub section : IsSizedSection bytes (sized sizes 0 lists)

-- these lists would have 2^31 bytes or more
pub record AreListsOfLarge (lines : List Line) (p : Program) (c : Compilation) (with_frame : Bool) : Type 0 where
  pub lists : List (List Range)
  pub kept : AllKept c.functions c.output.functions lists
  pub sizes : List ℕ
  pub sized_by : AreListSizesOf lines p c with_frame (length lists) sizes
  pub large : SECTION_LIMIT ≤ length (lists_spelling (sized sizes 0 lists))

-- ---- the object

-- the bytes are the object of the compiled program that a linker places, where its IR block has these lines
pub record IsLinkableOf (lines : List Line) (p : Program) (c : Compilation) (with_frame : Bool) (flags : ℕ) (bytes : List ℕ) : Type 0 where
  pub tables : DebugTables
  pub are : AreTablesOf lines p c with_frame tables
  pub loclists : List ℕ
  pub lists : AreListsOf lines p c with_frame loclists
  pub object : IsLinkableObject flags c.output loclists tables bytes

-- its file would have 2^31 bytes or more
pub record IsFileLarge (lines : List Line) (p : Program) (c : Compilation) (with_frame : Bool) (flags : ℕ) : Type 0 where
  pub tables : DebugTables
  pub are : AreTablesOf lines p c with_frame tables
  pub loclists : List ℕ
  pub lists : AreListsOf lines p c with_frame loclists
  pub large : HasLargeLinkable flags c.output loclists tables

-- its file, or a section of it, would have 2^31 bytes or more
abbrev pub IsLinkableLarge : List Line → Program → Compilation → (with_frame : Bool) → (flags : ℕ) → Type 0
IsLinkableLarge lines p c with_frame flags = AreTablesOfLarge lines p c with_frame ⊎ (AreListsOfLarge lines p c with_frame ⊎ IsFileLarge lines p c with_frame flags)
