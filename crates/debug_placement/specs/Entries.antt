-- The pieces of `.debug_info`, and the section where the code and the sections that it refers to lie at other addresses.
use Rattle.std.specs.Prelude.{ℕ, ◌+◌, ◌<◌, ◌^◌, List, [], ◌∷◌, ◌++◌, length, map, All, None}
use Rattle.std.specs.List.{flat_map}
use Rattle.std.specs.Int.{w16, w32, to_le_bytes}
use Rattle.dwarf_base.specs.Leb.{uleb_of}
use Rattle.dwarf_base.specs.Standard.{VERSION, ADDRESS_SIZE}
use Rattle.dwarf_info.specs.declared.kind.DieKind.{DieKind}
use Rattle.dwarf_info.specs.declared.kind.DieKind.TheVariants.{CompileUnit, Subprogram, UnitWithRanges}
use Rattle.dwarf_info.specs.declared.unit.FunctionEntry.{FunctionEntry}
use Rattle.dwarf_info.specs.declared.unit.Unit.{Unit as CompilationUnit}
use Rattle.dwarf_info.specs.declared.inlined.InlinedFunction.{InlinedFunction}
use Rattle.dwarf_info.specs.declared.inlined.InlinedUnit.{InlinedUnit}
use Rattle.dwarf_info.specs.Standard.{DW_UT_compile, DW_LANG_C99, LOCLISTS_BASE, RNGLISTS_BASE}
use Rattle.dwarf_info.specs.Kinds.{code}
use Rattle.dwarf_info.specs.Entries.{DebugInfoEntry, Tree, entry, named, base_type, variable, subprogram, function_of, type_offset, tree, tree_of}
use Rattle.dwarf_info.specs.Inlined
use Rattle.dwarf_info.specs.Inlined.{abstract_subprogram, call_bytes, calls_within, inlined_functions, inlined_tree, origin_offset}
use Rattle.elf_content.specs.declared.piece.Piece.{Piece}
use Rattle.elf_content.specs.declared.piece.Piece.TheVariants.{Fixed}
use Rattle.elf_content.specs.Content.{symbol_address}
use Rattle.debug_placement.specs.declared.sections.UnitSections.{UnitSections}
use Rattle.debug_placement.specs.Fields.{address_field, offset_field}

-- ---- the section by where what it refers to lies

-- the address of the code, and the offsets of the unit's parts of the other sections in those that a linker joined (DWARF 5 section 7.4)
pub record UnitPlaces : Type 0 where
  pub text : ℕ
  pub abbreviations : ℕ
  pub lines : ℕ
  pub lists : ℕ
  pub ranges : ℕ

-- those of sections whose symbols have these addresses
abbrev pub unit_places : (addresses : List ℕ) → UnitSections → UnitPlaces
unit_places addresses s = record {
  text = symbol_address addresses s.text;
  abbreviations = symbol_address addresses s.abbreviations;
  lines = symbol_address addresses s.lines;
  lists = symbol_address addresses s.lists;
  ranges = symbol_address addresses s.ranges;
}

-- the unit's header before the offset of its abbreviations
abbrev pub header_front : (length_after : ℕ) → List ℕ
header_front n = to_le_bytes w32 n ++ to_le_bytes w16 VERSION ++ (DW_UT_compile ∷ ADDRESS_SIZE ∷ [])

abbrev pub header_in : UnitPlaces → (length_after : ℕ) → List ℕ
header_in p n = header_front n ++ to_le_bytes w32 p.abbreviations

-- the function with its address moved
abbrev pub moved_function : (base : ℕ) → FunctionEntry → FunctionEntry
moved_function base f = record { name = f.name; lo = base + f.lo; len = f.len; variables = f.variables }

-- a compilation unit whose code begins at an address, with the offsets of its line number table and of what its location lists count from
abbrev pub compile_unit_in : UnitPlaces → CompilationUnit → DebugInfoEntry
compile_unit_in p u =
    record { kind = CompileUnit; given = (DW_LANG_C99, (u.name, (u.dir, (p.lines, (p.text, (u.text_len, (p.lists + LOCLISTS_BASE, tt))))))) }

-- the same entries, each address moved by where the code is, and each offset by where its section is
abbrev pub tree_in : UnitPlaces → CompilationUnit → Tree
tree_in p u = record {
  self = compile_unit_in p u;
  types = map base_type u.types;
  functions = map (function_of (type_offset u)) (map (moved_function p.text) u.functions);
}

-- the section of these entries
abbrev pub spelling_in : UnitPlaces → CompilationUnit → List ℕ
spelling_in p u = header_in p (8 + length (tree (tree_in p u))) ++ tree (tree_in p u)

-- ---- with inlined functions

abbrev pub unit_with_ranges_in : UnitPlaces → InlinedUnit → DebugInfoEntry
unit_with_ranges_in p u = record {
  kind = UnitWithRanges;
  given = (DW_LANG_C99, (u.name, (u.dir, (p.lines, (p.text, (u.text_len, (p.lists + LOCLISTS_BASE, (p.ranges + RNGLISTS_BASE, tt))))))));
}

abbrev pub moved_inlined : (base : ℕ) → InlinedFunction → InlinedFunction
moved_inlined base f = record { function = moved_function base f.function; calls = f.calls }

abbrev pub inlined_tree_in : UnitPlaces → InlinedUnit → List ℕ
inlined_tree_in p u =
    entry (unit_with_ranges_in p u) ++ flat_map entry (map base_type u.types) ++ flat_map entry (map abstract_subprogram u.abstracts)
    ++ inlined_functions (Inlined.type_offset u) (origin_offset u) 0 (map (moved_inlined p.text) u.functions) ++ 0 ∷ []

abbrev pub inlined_spelling_in : UnitPlaces → InlinedUnit → List ℕ
inlined_spelling_in p u = header_in p (8 + length (inlined_tree_in p u)) ++ inlined_tree_in p u

-- ---- its pieces, by the numbers of the symbols of the sections that it refers to

-- a function's entry and the bytes of its children, with the zero byte that ends them
pub record FunctionPart : Type 0 where
  pub self : FunctionEntry
  pub children : List ℕ

-- the entry before its address, and what follows it
abbrev pub part_front : FunctionEntry → List ℕ
part_front f = uleb_of (code Subprogram) ++ (named f.name ++ 0 ∷ [])

abbrev pub part_rest : FunctionEntry → (children : List ℕ) → List ℕ
part_rest f children = to_le_bytes w32 f.len ++ children

abbrev pub part_pieces : (text : ℕ) → FunctionPart → List Piece
part_pieces text x = Fixed (part_front x.self) ∷ address_field text x.self.lo ∷ Fixed (part_rest x.self x.children) ∷ []

-- the functions, and the zero byte that ends the unit's children
abbrev pub parts_pieces : (text : ℕ) → List FunctionPart → List Piece
parts_pieces text parts = flat_map (part_pieces text) parts ++ Fixed (0 ∷ []) ∷ []

-- the unit's entry before its first offset
abbrev pub unit_front : DieKind → (name dir : List ℕ) → List ℕ
unit_front kind name dir = uleb_of (code kind) ++ (to_le_bytes w16 DW_LANG_C99 ++ ((named name ++ 0 ∷ []) ++ (named dir ++ 0 ∷ [])))

-- the pieces from the header up to DW_AT_loclists_base
abbrev pub front_pieces : UnitSections → (length_after : ℕ) → (front : List ℕ) → (text_len : ℕ) → (rest : List Piece) → List Piece
front_pieces s n front text_len rest =
    Fixed (header_front n) ∷ offset_field s.abbreviations 0 ∷ Fixed front ∷ offset_field s.lines 0 ∷ address_field s.text 0
    ∷ Fixed (to_le_bytes w32 text_len) ∷ offset_field s.lists LOCLISTS_BASE ∷ rest

abbrev pub part_of : (offset : ℕ → ℕ) → FunctionEntry → FunctionPart
part_of offset f = record { self = f; children = flat_map (λ v. entry (variable offset v)) f.variables ++ 0 ∷ [] }

abbrev pub info_pieces : UnitSections → CompilationUnit → List Piece
info_pieces s u =
    front_pieces s (8 + length (tree (tree_of u))) (unit_front CompileUnit u.name u.dir) u.text_len
    (Fixed (flat_map (λ b. entry (base_type b)) u.types) ∷ parts_pieces s.text (map (part_of (type_offset u)) u.functions))

-- a function with its calls, whose range lists are numbered from this index on
abbrev pub inlined_part : (offset origin : ℕ → ℕ) → (first : ℕ) → InlinedFunction → FunctionPart
inlined_part offset origin first f = record {
  self = f.function;
  children =
      flat_map (λ v. entry (variable offset v)) f.function.variables ++ (calls_within (call_bytes offset origin first) 0 f.calls None ++ 0 ∷ []);
}

abbrev pub inlined_parts : (offset origin : ℕ → ℕ) → (first : ℕ) → List InlinedFunction → List FunctionPart
inlined_parts offset origin first [] = []
inlined_parts offset origin first (f ∷ fs) = inlined_part offset origin first f ∷ inlined_parts offset origin (first + length f.calls) fs

abbrev pub inlined_pieces : UnitSections → InlinedUnit → List Piece
inlined_pieces s u =
    front_pieces s (8 + length (inlined_tree u)) (unit_front UnitWithRanges u.name u.dir) u.text_len
    (offset_field s.ranges RNGLISTS_BASE
    ∷ Fixed (flat_map (λ b. entry (base_type b)) u.types ++ flat_map (λ n. entry (abstract_subprogram n)) u.abstracts)
    ∷ parts_pieces s.text (inlined_parts (Inlined.type_offset u) (origin_offset u) 0 u.functions))

-- ---- places at which the fields fit

-- the code of a function and the offsets can be written
abbrev pub IsBelow : (base : ℕ) → FunctionEntry → Type 0
IsBelow base f = base + f.lo < 2 ^ 64

pub record UnitFits (p : UnitPlaces) (functions : List FunctionEntry) : Type 0 where
  pub text : p.text < 2 ^ 64
  pub functions_fit : All (IsBelow p.text) functions
  pub abbreviations : p.abbreviations < 2 ^ 32
  pub lines : p.lines < 2 ^ 32
  pub lists : p.lists + LOCLISTS_BASE < 2 ^ 32

-- with inlined functions that of the range lists too
abbrev pub HasRangesBelow : UnitPlaces → Type 0
HasRangesBelow p = p.ranges + RNGLISTS_BASE < 2 ^ 32
