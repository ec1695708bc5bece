-- Parameters and variables have types: a debugger takes one without a type for an `int`.
use Rattle.std.specs.Prelude.{◌≡◌, ℕ, Bool, true, false, ◌||◌, nat_eq, List}
use Rattle.std.specs.List.{list_any}
use Rattle.dwarf_info.specs.Standard.{DW_TAG_formal_parameter, DW_TAG_variable, DW_AT_type}
use Rattle.dwarf_entry.specs.declared.tree.Attribute.{Attribute}
use Rattle.dwarf_entry.specs.declared.tree.TreeItem.{TreeItem}
use Rattle.dwarf_entry.specs.declared.tree.TreeItem.TheVariants.{Die, Null}
use Rattle.type_nodes.specs.declared.shape.Shape.{Shape}
use Rattle.type_nodes.specs.declared.shape.Shape.TheVariants.{Base, Pointer, Qualifier, Typedef, Declaration, Record, Enumeration, Array, Subroutine}

-- whether a tag is that of a parameter or of a variable
abbrev pub is_variable_tag : ℕ → Bool
is_variable_tag tag = nat_eq tag DW_TAG_formal_parameter || nat_eq tag DW_TAG_variable

-- whether some attribute has a name
abbrev pub has_attribute : (name : ℕ) → List Attribute → Bool
has_attribute name attributes = list_any (λ a. nat_eq a.name name) attributes

-- an item has a type, if it is a parameter or a variable
abbrev pub HasType : TreeItem → Type 0
HasType Null = Unit {0}
HasType (Die e) = is_variable_tag e.tag ≡ true → has_attribute DW_AT_type e.attributes ≡ true

-- a type whose tag, if it gives one, is that of a type
abbrev pub HasTypeTag : Shape → Type 0
HasTypeTag (Base name size encoding) = Unit {0}
HasTypeTag (Pointer tag to) = is_variable_tag tag ≡ false
HasTypeTag (Qualifier tag to) = is_variable_tag tag ≡ false
HasTypeTag (Typedef name to) = Unit {0}
HasTypeTag (Declaration tag name) = is_variable_tag tag ≡ false
HasTypeTag (Record tag name size members) = is_variable_tag tag ≡ false
HasTypeTag (Enumeration name size to enumerators) = Unit {0}
HasTypeTag (Array to counts) = Unit {0}
HasTypeTag (Subroutine result parameters more) = Unit {0}
