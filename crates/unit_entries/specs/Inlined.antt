-- The tree of a unit with inlined functions. Item 0 is the unit, and behind it are the types and the abstract entries in their order.
use Rattle.std.specs.Prelude.{ℕ, suc, ◌+◌, true, false, cond, nat_eq, Option, Some, None, List, [], ◌∷◌, ◌++◌, length, map}
use Rattle.std.specs.Option.{option_eq}
use Rattle.dwarf_info.specs.Standard.{DW_TAG_compile_unit, DW_TAG_subprogram, DW_TAG_inlined_subroutine, DW_AT_name, DW_AT_inline, DW_AT_abstract_origin}
use Rattle.dwarf_info.specs.Standard.{DW_AT_ranges, DW_AT_call_file, DW_AT_call_line, DW_AT_call_column, DW_AT_rnglists_base, DW_INL_inlined, RNGLISTS_BASE}
use Rattle.dwarf_info.specs.declared.inlined.InlinedCall.{InlinedCall}
use Rattle.dwarf_info.specs.declared.inlined.InlinedFunction.{InlinedFunction}
use Rattle.dwarf_info.specs.declared.inlined.InlinedUnit.{InlinedUnit}
use Rattle.dwarf_entry.specs.declared.tree.Value.TheVariants.{Data1, Unsigned, Text, Reference, SectionOffset, RangeList}
use Rattle.dwarf_entry.specs.declared.tree.TreeItem.{TreeItem}
use Rattle.dwarf_entry.specs.declared.tree.TreeItem.TheVariants.{Die, Null}
use Rattle.unit_entries.specs.Plain.{at, unit_attributes, type_item, variable_item, subprogram_item}

-- the unit, whose range lists count from an offset too
abbrev pub unit_item : InlinedUnit → TreeItem
unit_item u = Die (record {
  tag = DW_TAG_compile_unit;
  children = true;
  attributes = unit_attributes u.name u.dir u.text_len ++ at DW_AT_rnglists_base (SectionOffset RNGLISTS_BASE) ∷ [];
})

-- a function that was inlined, apart from its calls
abbrev pub abstract_item : (name : List ℕ) → TreeItem
abstract_item name = Die (record {
  tag = DW_TAG_subprogram;
  children = false;
  attributes = at DW_AT_name (Text name) ∷ at DW_AT_inline (Data1 DW_INL_inlined) ∷ [];
})

-- the code of a function that was inlined at a call, by the number of types, and with this range list
abbrev pub subroutine_item : (types list : ℕ) → InlinedCall → TreeItem
subroutine_item types list c = Die (record {
  tag = DW_TAG_inlined_subroutine;
  children = true;
  attributes =
      at DW_AT_abstract_origin (Reference (suc types + c.origin)) ∷ at DW_AT_ranges (RangeList list) ∷ at DW_AT_call_file (Unsigned c.file)
      ∷ at DW_AT_call_line (Unsigned c.line) ∷ at DW_AT_call_column (Unsigned c.column) ∷ [];
})

-- the entry of a call's code with its variables. The range list of a function's call k has the index first + k
abbrev pub call_items : (types first k : ℕ) → InlinedCall → List TreeItem
call_items types first k c = subroutine_item types (first + k) c ∷ map variable_item c.variables

-- of calls from number k on those in the code of a call, or if there is none in the function's own code, each with those in its code
abbrev pub calls_within : (items : ℕ → InlinedCall → List TreeItem) → (k : ℕ) → List InlinedCall → (around : Option ℕ) → List TreeItem
calls_within items k [] around = []
calls_within items k (c ∷ cs) around =
    cond (option_eq nat_eq c.parent around) (items k c ++ (calls_within items (suc k) cs (Some k) ++ Null ∷ [])) []
    ++ calls_within items (suc k) cs around

-- a function with its own variables and its calls
abbrev pub function_items : (types first : ℕ) → InlinedFunction → List TreeItem
function_items types first f =
    subprogram_item f.function ∷ (map variable_item f.function.variables ++ (calls_within (call_items types first) 0 f.calls None ++ Null ∷ []))

-- functions, whose calls' range lists are numbered from an index on
abbrev pub functions_items : (types first : ℕ) → List InlinedFunction → List TreeItem
functions_items types first [] = []
functions_items types first (f ∷ fs) = function_items types first f ++ functions_items types (first + length f.calls) fs

-- the tree of a unit
abbrev pub inlined_unit_tree : InlinedUnit → List TreeItem
inlined_unit_tree u =
    unit_item u ∷ (map type_item u.types ++ (map abstract_item u.abstracts ++ (functions_items (length u.types) 0 u.functions ++ Null ∷ [])))
