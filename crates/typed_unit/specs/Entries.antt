-- The entries of functions and variables. (DWARF 5, chapters 3 and 4.)
use Rattle.std.specs.Prelude.{ℕ, ◌+◌, Bool, true, false, cond, nat_lt, List, [], ◌∷◌, ◌++◌, map, Option, Some, None}
use Rattle.std.specs.List.{slice_get}
use Rattle.dwarf_info.specs.Standard.{DW_TAG_formal_parameter, DW_TAG_inlined_subroutine, DW_TAG_subprogram, DW_TAG_variable, DW_AT_location, DW_AT_name}
use Rattle.dwarf_info.specs.Standard.{DW_AT_low_pc, DW_AT_high_pc, DW_AT_type, DW_AT_inline, DW_AT_abstract_origin, DW_AT_ranges, DW_AT_call_file}
use Rattle.dwarf_info.specs.Standard.{DW_AT_call_line, DW_AT_call_column, DW_INL_inlined}
use Rattle.dwarf_entry.specs.declared.tree.Value.TheVariants.{Address, Data1, Data4, Unsigned, Text, Reference, LocationList, RangeList, Flag, Expression}
use Rattle.dwarf_entry.specs.declared.tree.Attribute.{Attribute}
use Rattle.dwarf_entry.specs.declared.tree.TreeItem.{TreeItem}
use Rattle.dwarf_entry.specs.declared.tree.TreeItem.TheVariants.{Null}
use Rattle.graph_cycles.specs.Ends.{is_marked}
use Rattle.type_nodes.specs.declared.shape.Shape.{Shape}
use Rattle.type_nodes.specs.declared.shape.Shape.TheVariants.{Base, Pointer, Qualifier, Typedef, Declaration, Record, Enumeration, Array, Subroutine}
use Rattle.type_entries.specs.declared.table.TypeTable.{TypeTable}
use Rattle.type_entries.specs.Entries.{at, entry, variable_type}
use Rattle.type_entries.specs.Standard.{DW_AT_prototyped}
use Rattle.typed_unit.specs.declared.content.Declared.{Declared}
use Rattle.typed_unit.specs.declared.content.Subprogram.{Subprogram}
use Rattle.typed_unit.specs.declared.content.TypedVariable.{TypedVariable}
use Rattle.typed_unit.specs.declared.content.Call.{Call}
use Rattle.typed_unit.specs.declared.content.Inner.{Inner}
use Rattle.typed_unit.specs.declared.content.Inner.TheVariants as inner
use Rattle.typed_unit.specs.declared.content.TypedFunction.{TypedFunction}
use Rattle.typed_unit.specs.Standard.{DW_TAG_lexical_block, DW_AT_decl_file, DW_AT_decl_line, DW_AT_external, DW_AT_frame_base, DW_AT_linkage_name}
use Rattle.typed_unit.specs.Standard.{DW_OP_call_frame_cfa}

-- where something is declared, if that is known
abbrev pub declared_attributes : Option Declared → List Attribute
declared_attributes None = []
declared_attributes (Some d) = at DW_AT_decl_file (Unsigned d.file) ∷ at DW_AT_decl_line (Unsigned d.line) ∷ []

-- ---- functions as they are declared

abbrev pub linkage_attribute : List ℕ → List Attribute
linkage_attribute [] = []
linkage_attribute (b ∷ name) = at DW_AT_linkage_name (Text (b ∷ name)) ∷ []

-- the type of the result of what is a function's type
abbrev pub result_in : Option Shape → Option ℕ
result_in None = None
result_in (Some (Base name size encoding)) = None
result_in (Some (Pointer tag to)) = None
result_in (Some (Qualifier tag to)) = None
result_in (Some (Typedef name to)) = None
result_in (Some (Declaration tag name)) = None
result_in (Some (Record tag name size members)) = None
result_in (Some (Enumeration name size to enumerators)) = None
result_in (Some (Array to counts)) = None
result_in (Some (Subroutine result parameters more)) = result

-- the type of a function's result, by the function's own type: none for void, and where its own type doesn't stand
abbrev pub result_type : (types : List Shape) (stands : List Bool) → (signature : Option ℕ) → Option ℕ
result_type types stands None = None
result_type types stands (Some n) = cond (is_marked stands n) (result_in (slice_get types n)) None

abbrev pub result_attribute : TypeTable → Option ℕ → List Attribute
result_attribute t None = []
result_attribute t (Some n) = at DW_AT_type (variable_type t (Some n)) ∷ []

-- a function as it is declared
abbrev pub description : TypeTable → Subprogram → List Attribute
description t s =
    at DW_AT_name (Text s.name) ∷ (linkage_attribute s.linkage_name ++ declared_attributes s.declared ++ at DW_AT_external (Flag s.external)
    ∷ at DW_AT_prototyped (Flag s.prototyped) ∷ result_attribute t (result_type t.types t.stands.items s.signature))

-- a function that was inlined, apart from its calls
abbrev pub abstract_item : TypeTable → Subprogram → TreeItem
abstract_item t s = entry DW_TAG_subprogram false (description t s ++ at DW_AT_inline (Data1 DW_INL_inlined) ∷ [])

-- ---- what stands inside functions

abbrev pub list_attribute : Option ℕ → List Attribute
list_attribute None = []
list_attribute (Some list) = at DW_AT_location (LocationList list) ∷ []

-- a parameter or a variable: it always has a type
abbrev pub variable_item : TypeTable → TypedVariable → TreeItem
variable_item t v =
    entry (cond v.argument DW_TAG_formal_parameter DW_TAG_variable) false
    (at DW_AT_name (Text v.name) ∷ (declared_attributes v.declared ++ at DW_AT_type (variable_type t v.base) ∷ list_attribute v.list))

abbrev pub block_item : (list : ℕ) → TreeItem
block_item list = entry DW_TAG_lexical_block true (at DW_AT_ranges (RangeList list) ∷ [])

-- the entry of a function that was inlined, by its index, if those of all are the items from one up to another
abbrev pub origin_attribute : (begin end : ℕ) → (origin : ℕ) → List Attribute
origin_attribute begin end origin =
    cond (nat_lt (begin + origin) end) (at DW_AT_abstract_origin (Reference (begin + origin)) ∷ []) []

-- the code of a function that was inlined
abbrev pub call_item : (begin end : ℕ) → Call → TreeItem
call_item begin end c =
    entry DW_TAG_inlined_subroutine true
    (origin_attribute begin end c.origin ++ at DW_AT_ranges (RangeList c.list) ∷ at DW_AT_call_file (Unsigned c.file)
    ∷ at DW_AT_call_line (Unsigned c.line) ∷ at DW_AT_call_column (Unsigned c.column) ∷ [])

abbrev pub inner_item : TypeTable → (begin end : ℕ) → Inner → TreeItem
inner_item t begin end (inner.Variable v) = variable_item t v
inner_item t begin end (inner.Block list) = block_item list
inner_item t begin end (inner.Inlined c) = call_item begin end c
inner_item t begin end inner.End = Null

-- ---- functions

-- the frame base, if it is told: the canonical frame address
abbrev pub frame_attribute : (told : Bool) → List Attribute
frame_attribute false = []
frame_attribute true = at DW_AT_frame_base (Expression (DW_OP_call_frame_cfa ∷ [])) ∷ []

-- a function without its children. Its high_pc is a length (section 2.17.2)
abbrev pub subprogram_item : TypeTable → (frame_base : Bool) → TypedFunction → TreeItem
subprogram_item t frame_base f =
    entry DW_TAG_subprogram true
    (description t f.subprogram ++ at DW_AT_low_pc (Address f.lo) ∷ at DW_AT_high_pc (Data4 f.len) ∷ frame_attribute frame_base)

-- a function with what stands inside it
abbrev pub function_items : TypeTable → (begin end : ℕ) → (frame_base : Bool) → TypedFunction → List TreeItem
function_items t begin end frame_base f = subprogram_item t frame_base f ∷ (map (inner_item t begin end) f.inside ++ Null ∷ [])
