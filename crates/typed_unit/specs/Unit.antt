-- The tree of a compilation unit with its types. (DWARF 5, section 3.1.1.)
use Rattle.std.specs.Prelude.{◌≡◌, ℕ, Bool, true, false, cond, codes, List, [], ◌∷◌, ◌++◌, length, map}
use Rattle.std.specs.List.{flat_map}
use Rattle.dwarf_info.specs.Standard.{DW_TAG_compile_unit, DW_AT_name, DW_AT_stmt_list, DW_AT_low_pc, DW_AT_high_pc, DW_AT_language, DW_AT_comp_dir}
use Rattle.dwarf_info.specs.Standard.{DW_AT_loclists_base, DW_AT_rnglists_base, LOCLISTS_BASE, RNGLISTS_BASE}
use Rattle.dwarf_entry.specs.declared.tree.Value.TheVariants.{Address, Data2, Data4, Text, SectionOffset}
use Rattle.dwarf_entry.specs.declared.tree.Attribute.{Attribute}
use Rattle.dwarf_entry.specs.declared.tree.TreeItem.{TreeItem}
use Rattle.dwarf_entry.specs.declared.tree.TreeItem.TheVariants.{Null}
use Rattle.type_nodes.specs.declared.shape.Shape.{Shape}
use Rattle.type_entries.specs.declared.table.TypeTable.{TypeTable}
use Rattle.type_entries.specs.Entries.{at, entry}
use Rattle.type_entries.specs.Types.{items_from, unknown_item, IsTable}
use Rattle.typed_unit.specs.declared.content.TypedUnit.{TypedUnit}
use Rattle.typed_unit.specs.Standard.{DW_AT_producer}
use Rattle.typed_unit.specs.Entries.{abstract_item, function_items}
use Rattle.typed_unit.specs.Unknown.{names_unknown}

-- where range lists begin, if there are some
abbrev pub ranges_attribute : (ranges : Bool) → List Attribute
ranges_attribute false = []
ranges_attribute true = at DW_AT_rnglists_base (SectionOffset RNGLISTS_BASE) ∷ []

-- the program that made a unit, and the unit's source
abbrev pub source_attributes : (producer : List ℕ) → TypedUnit → List Attribute
source_attributes producer u =
    at DW_AT_producer (Text producer) ∷ at DW_AT_language (Data2 u.language) ∷ at DW_AT_name (Text u.name) ∷ at DW_AT_comp_dir (Text u.dir) ∷ []

-- the line number table of a unit is the first one, and its code begins at address 0
abbrev pub code_attributes : TypedUnit → List Attribute
code_attributes u =
    at DW_AT_stmt_list (SectionOffset 0) ∷ at DW_AT_low_pc (Address 0) ∷ at DW_AT_high_pc (Data4 u.text_len)
    ∷ at DW_AT_loclists_base (SectionOffset LOCLISTS_BASE) ∷ []

abbrev pub unit_by : (producer : List ℕ) → TypedUnit → TreeItem
unit_by producer u = entry DW_TAG_compile_unit true (source_attributes producer u ++ code_attributes u ++ ranges_attribute u.ranges)

abbrev pub unit_item : TypedUnit → TreeItem
unit_item u = unit_by (codes "mirdwarf") u

-- the unknown type, if it is used
abbrev pub unknown_items : (used : Bool) → List TreeItem
unknown_items used = cond used (unknown_item ∷ []) []

-- whether it is, by a table of the unit's types
abbrev pub uses_unknown : TypeTable → TypedUnit → Bool
uses_unknown t u = names_unknown t.types t.stands.items t.sizes.items u

-- what stands before the types
abbrev pub head_items : TypeTable → TypedUnit → List TreeItem
head_items t u = unit_item u ∷ unknown_items (uses_unknown t u)

-- items, and behind them the types that stand
abbrev pub with_types : TypeTable → List TreeItem → List TreeItem
with_types t before = before ++ items_from t 0 t.types

-- items, and behind them the types that stand and the functions that were inlined
abbrev pub with_abstracts : TypeTable → TypedUnit → List TreeItem → List TreeItem
with_abstracts t u before = with_types t before ++ map (abstract_item t) u.abstracts

-- items, and behind them all that stands inside a unit, up to its end
abbrev pub with_functions : TypeTable → TypedUnit → List TreeItem → List TreeItem
with_functions t u before =
    with_abstracts t u before
    ++ flat_map (function_items t (length (with_types t before)) (length (with_abstracts t u before)) u.frame_base) u.functions ++ Null ∷ []

-- the tree of a unit by a table of its types: the unknown type, if it is used, the types that stand, the functions that were inlined, and the functions
abbrev pub unit_tree : TypeTable → TypedUnit → List TreeItem
unit_tree t u = with_functions t u (head_items t u)

-- the tree of a unit with these types. The unknown type is item 1
pub record IsTypedTree (shapes : List Shape) (u : TypedUnit) (tree : List TreeItem) : Type 0 where
  pub table : TypeTable
  pub types : table.types ≡ shapes
  pub unknown : table.unknown ≡ 1
  pub is : IsTable (length (head_items table u)) table
  pub items : tree ≡ unit_tree table u
