-- The entries of all types.
use Rattle.std.specs.Prelude.{◌≡◌, ℕ, suc, ◌+◌, ◌<◌, Bool, false, not, ◌&&◌, ◌||◌, cond, List, [], ◌∷◌, ◌++◌, length, take, slice_index_or, codes}
use Rattle.std.specs.Prelude.{Option, Some}
use Rattle.std.specs.List.{list_any}
use Rattle.dwarf_entry.specs.declared.tree.TreeItem.{TreeItem}
use Rattle.graph_cycles.specs.Ends.{is_marked}
use Rattle.type_nodes.specs.declared.shape.Shape.{Shape}
use Rattle.type_nodes.specs.declared.shape.Shape.TheVariants.{Base, Pointer, Qualifier, Typedef, Declaration, Record, Enumeration, Array, Subroutine}
use Rattle.type_nodes.specs.Standing.{AreStanding}
use Rattle.type_nodes.specs.Sizes.{AreSizes}
use Rattle.type_entries.specs.declared.table.TypeTable.{TypeTable}
use Rattle.type_entries.specs.Entries.{base_item, is_known, shape_items}

-- the items of these types, of which the first has an index: of those that stand, in order
abbrev pub items_from : TypeTable → (index : ℕ) → List Shape → List TreeItem
items_from t n [] = []
items_from t n (s ∷ types) = cond (is_marked t.stands.items n) (shape_items t s) [] ++ items_from t (suc n) types

-- an unknown type of eight bytes
abbrev pub unknown_item : TreeItem
unknown_item = base_item (codes "unknown") 8 7

-- whether an item of a type names the unknown one: a function's parameter has it
abbrev pub names_unknown : (stands : List Bool) (sizes : List (Option ℕ)) → Shape → Bool
names_unknown stands sizes (Base name size encoding) = false
names_unknown stands sizes (Pointer tag to) = false
names_unknown stands sizes (Qualifier tag to) = false
names_unknown stands sizes (Typedef name to) = false
names_unknown stands sizes (Declaration tag name) = false
names_unknown stands sizes (Record tag name size members) = false
names_unknown stands sizes (Enumeration name size to enumerators) = false
names_unknown stands sizes (Array to counts) = false
names_unknown stands sizes (Subroutine result parameters more) = list_any (λ n. not (is_known stands sizes (Some n))) parameters

-- whether an item of these types does, of which the first has an index
abbrev pub types_name_unknown : (stands : List Bool) (sizes : List (Option ℕ)) → (index : ℕ) → List Shape → Bool
types_name_unknown stands sizes n [] = false
types_name_unknown stands sizes n (s ∷ types) =
    (is_marked stands n && names_unknown stands sizes s) || types_name_unknown stands sizes (suc n) types

-- where the items of each of these types begin, if those of all begin behind so many others
pub record AreStarts (first : ℕ) (t : TypeTable) (types : List Shape) (starts : List ℕ) : Type 0 where
  pub long : length starts ≡ length types
  pub each : (n : ℕ) → n < length types → slice_index_or starts n 0 ≡ first + length (items_from t 0 (take n types))

-- which types stand, and the size of each
pub record AreKnown (t : TypeTable) : Type 0 where
  pub stands : AreStanding t.types t.stands.items
  pub sizes : AreSizes t.types t.sizes.items

-- what is looked up of types whose items begin behind so many others
pub record IsTable (first : ℕ) (t : TypeTable) : Type 0 where
  pub stands : AreStanding t.types t.stands.items
  pub sizes : AreSizes t.types t.sizes.items
  pub items : AreStarts first t t.types t.items.items
