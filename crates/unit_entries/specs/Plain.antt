-- The tree of a unit without inlined functions. Item 0 is the unit, and behind it are the types in their order.
use Rattle.std.specs.Prelude.{ℕ, suc, Bool, true, false, cond, Option, Some, None, List, [], ◌∷◌, ◌++◌, map}
use Rattle.std.specs.List.{flat_map}
use Rattle.dwarf_info.specs.Standard.{DW_TAG_formal_parameter, DW_TAG_compile_unit, DW_TAG_base_type, DW_TAG_subprogram, DW_TAG_variable, DW_LANG_C99}
use Rattle.dwarf_info.specs.Standard.{DW_AT_location, DW_AT_name, DW_AT_byte_size, DW_AT_stmt_list, DW_AT_low_pc, DW_AT_high_pc, DW_AT_language}
use Rattle.dwarf_info.specs.Standard.{DW_AT_comp_dir, DW_AT_encoding, DW_AT_type, DW_AT_loclists_base, LOCLISTS_BASE}
use Rattle.dwarf_info.specs.declared.unit.BaseEntry.{BaseEntry}
use Rattle.dwarf_info.specs.declared.unit.VariableEntry.{VariableEntry}
use Rattle.dwarf_info.specs.declared.unit.FunctionEntry.{FunctionEntry}
use Rattle.dwarf_info.specs.declared.unit.Unit.{Unit as CompilationUnit}
use Rattle.dwarf_entry.specs.declared.tree.Value.{Value}
use Rattle.dwarf_entry.specs.declared.tree.Value.TheVariants.{Address, Data1, Data2, Data4, Text, Reference, SectionOffset, LocationList}
use Rattle.dwarf_entry.specs.declared.tree.Attribute.{Attribute}
use Rattle.dwarf_entry.specs.declared.tree.TreeItem.{TreeItem}
use Rattle.dwarf_entry.specs.declared.tree.TreeItem.TheVariants.{Die, Null}

abbrev pub at : ℕ → Value → Attribute
at name value = record { name = name; value = value }

-- the attributes of a unit
abbrev pub unit_attributes : (name dir : List ℕ) (size : ℕ) → List Attribute
unit_attributes name dir size =
    at DW_AT_language (Data2 DW_LANG_C99) ∷ at DW_AT_name (Text name) ∷ at DW_AT_comp_dir (Text dir) ∷ at DW_AT_stmt_list (SectionOffset 0)
    ∷ at DW_AT_low_pc (Address 0) ∷ at DW_AT_high_pc (Data4 size) ∷ at DW_AT_loclists_base (SectionOffset LOCLISTS_BASE) ∷ []

abbrev pub unit_item : CompilationUnit → TreeItem
unit_item u = Die (record { tag = DW_TAG_compile_unit; children = true; attributes = unit_attributes u.name u.dir u.text_len })

-- a base type
abbrev pub type_item : BaseEntry → TreeItem
type_item b = Die (record {
  tag = DW_TAG_base_type;
  children = false;
  attributes = at DW_AT_name (Text b.name) ∷ at DW_AT_byte_size (Data1 b.size) ∷ at DW_AT_encoding (Data1 b.encoding) ∷ [];
})

-- a type by its index, which is behind the unit
abbrev pub type_attributes : Option ℕ → List Attribute
type_attributes None = []
type_attributes (Some base) = at DW_AT_type (Reference (suc base)) ∷ []

-- a parameter or a variable
abbrev pub variable_by : List ℕ → (argument : Bool) → Option ℕ → (list : ℕ) → TreeItem
variable_by name argument base list = Die (record {
  tag = cond argument DW_TAG_formal_parameter DW_TAG_variable;
  children = false;
  attributes = at DW_AT_name (Text name) ∷ (type_attributes base ++ at DW_AT_location (LocationList list) ∷ []);
})

abbrev pub variable_item : VariableEntry → TreeItem
variable_item v = variable_by v.name v.argument v.base v.list

-- a function without its children
abbrev pub subprogram_item : FunctionEntry → TreeItem
subprogram_item f = Die (record {
  tag = DW_TAG_subprogram;
  children = true;
  attributes = at DW_AT_name (Text f.name) ∷ at DW_AT_low_pc (Address f.lo) ∷ at DW_AT_high_pc (Data4 f.len) ∷ [];
})

-- a function with its parameters and variables
abbrev pub function_items : FunctionEntry → List TreeItem
function_items f = subprogram_item f ∷ (map variable_item f.variables ++ Null ∷ [])

-- the tree of a unit
abbrev pub unit_tree : CompilationUnit → List TreeItem
unit_tree u = unit_item u ∷ (map type_item u.types ++ (flat_map function_items u.functions ++ Null ∷ []))
