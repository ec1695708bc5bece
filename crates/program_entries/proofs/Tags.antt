-- The tags of a program's types are those of types.
use Rattle.std.proofs.Common.{◌≡◌, ℕ, Bool, true, false, Option, Some, None, List, [], ◌∷◌, refl}
use Rattle.std.specs.Prelude.{◌/◌, ◌%◌, ◌==◌, if◌then◌else◌, All, IfSome}
use Rattle.std.specs.List.{filter_map, cons_option, AllByRecursion}
use Rattle.std.specs.Option.{option_and_then, option_map}
use Rattle.std.proofs.lemmas.List.Elements.{All-from_recursion}
use Rattle.read_debug_nodes.specs.declared.node.DebugNode.{DebugNode}
use Rattle.read_debug_nodes.specs.declared.node.DebugNode.TheVariants as nodes
use Rattle.read_debug_nodes.specs.declared.node.DerivedForm.{DerivedForm}
use Rattle.read_debug_nodes.specs.declared.node.DerivedForm.TheVariants as derived
use Rattle.read_debug_nodes.specs.declared.node.CompositeForm.{CompositeForm}
use Rattle.read_debug_nodes.specs.declared.node.CompositeForm.TheVariants as composite
use Rattle.read_debug_nodes.specs.declared.node.CompositeType.{CompositeType}
use Rattle.read_debug_nodes.specs.Maps.{DebugMaps}
use Rattle.read_debug_nodes.specs.Metadata.{node_at}
use Rattle.type_nodes.specs.declared.shape.Shape.{Shape}
use Rattle.type_nodes.specs.declared.shape.Shape.TheVariants.{Declaration, Record, Enumeration, Array}
use Rattle.read_types.specs.Tags.{DW_TAG_class_type, DW_TAG_enumeration_type, DW_TAG_structure_type, DW_TAG_union_type}
use Rattle.read_types.specs.Indices.{index_in, index_or_past}
use Rattle.read_types.specs.Parts.{counts_at, elements_at, enumerators_at, members_at}
use Rattle.read_types.specs.Shapes.{derived_by, record_shape, enumeration_shape, array_shape, composite_by, subroutine_by, shape_of, shape_at}
use Rattle.read_types.specs.Types.{type_nodes, types_of}
use Rattle.typed_unit.specs.Typed.{is_variable_tag, HasTypeTag}

derived_tag : (form : DerivedForm) (name : List ℕ) (base : Option ℕ) → IfSome (derived_by form name base) HasTypeTag
derived_tag derived.Pointer name base = refl
derived_tag derived.Reference name base = refl
derived_tag derived.RvalueReference name base = refl
derived_tag derived.Const name base = refl
derived_tag derived.Volatile name base = refl
derived_tag derived.Restrict name base = refl
derived_tag derived.Atomic name base = refl
derived_tag derived.Typedef name base = tt
derived_tag derived.Member name base = tt
derived_tag derived.Other name base = tt

module _ (m : DebugMaps) (types : List ℕ) where
  record_tag : (tag : ℕ) → is_variable_tag tag ≡ false → (c : CompositeType) → IfSome (record_shape m types tag c) HasTypeTag
  record_tag tag is c = by_case (c.size % 8 == 0) c.declaration
    where
      by_case : (z w : Bool) → IfSome (if z then (if w then Some (Declaration tag c.name)
          else Some (Record tag c.name (c.size / 8) (members_at m types c.elements))) else None) HasTypeTag
      by_case true true = is
      by_case true false = is
      by_case false w = tt

  enumeration_tag : (c : CompositeType) → IfSome (enumeration_shape m types c) HasTypeTag
  enumeration_tag c = by_case (c.size % 8 == 0) c.declaration
    where
      by_case : (z w : Bool) → IfSome (if z then (if w then Some (Declaration DW_TAG_enumeration_type c.name)
          else Some (Enumeration c.name (c.size / 8) (option_map (index_in types) c.base) (enumerators_at m c.elements))) else None) HasTypeTag
      by_case true true = refl
      by_case true false = tt
      by_case false w = tt

  array_tag : (c : CompositeType) → IfSome (array_shape m types c) HasTypeTag
  array_tag c = by_case c.vector (counts_at m c.elements)
    where
      by_case : (z : Bool) (counts : Option (List (Option ℕ)))
          → IfSome (if z then None else option_map (Array (index_or_past types c.base)) counts) HasTypeTag
      by_case true counts = tt
      by_case false None = tt
      by_case false (Some counts) = tt

  composite_tag : (form : CompositeForm) (c : CompositeType) → IfSome (composite_by m types form c) HasTypeTag
  composite_tag composite.Structure c = record_tag DW_TAG_structure_type refl c
  composite_tag composite.Union c = record_tag DW_TAG_union_type refl c
  composite_tag composite.Class c = record_tag DW_TAG_class_type refl c
  composite_tag composite.Enumeration c = enumeration_tag c
  composite_tag composite.Array c = array_tag c
  composite_tag composite.Other c = tt

  subroutine_tag : (elements : Option (List (Option ℕ))) → HasTypeTag (subroutine_by types elements)
  subroutine_tag None = tt
  subroutine_tag (Some []) = tt
  subroutine_tag (Some (first ∷ parameters)) = tt

  node_tag : (node : DebugNode) → IfSome (shape_of m types node) HasTypeTag
  node_tag (nodes.File f) = tt
  node_tag nodes.Location = tt
  node_tag (nodes.Unit language) = tt
  node_tag (nodes.Subprogram s) = tt
  node_tag (nodes.Block scope) = tt
  node_tag (nodes.FileBlock scope) = tt
  node_tag (nodes.Variable v) = tt
  node_tag (nodes.BaseType t) = tt
  node_tag (nodes.Derived d) = derived_tag d.form d.name (option_map (index_in types) d.base)
  node_tag (nodes.Composite c) = composite_tag c.form c
  node_tag (nodes.Subroutine tuple) = subroutine_tag (elements_at m tuple)
  node_tag (nodes.Enumerator e) = tt
  node_tag (nodes.Subrange s) = tt
  node_tag (nodes.Tuple elements) = tt

  found_tag : (node : Option DebugNode) → IfSome (option_and_then (shape_of m types) node) HasTypeTag
  found_tag None = tt
  found_tag (Some node) = node_tag node

  more_tags : (o : Option Shape) (rest : List Shape) → IfSome o HasTypeTag → AllByRecursion HasTypeTag rest
      → AllByRecursion HasTypeTag (cons_option o rest)
  more_tags None rest own others = others
  more_tags (Some s) rest own others = (own, others)

  each_tag : (numbers : List ℕ) → AllByRecursion HasTypeTag (filter_map (shape_at m types) numbers)
  each_tag [] = tt
  each_tag (n ∷ numbers) =
      more_tags (shape_at m types n) (filter_map (shape_at m types) numbers) (found_tag (node_at m n)) (each_tag numbers)

pub type_tags : (m : DebugMaps) → All HasTypeTag (types_of m)
type_tags m = All-from_recursion HasTypeTag (types_of m) (each_tag m (type_nodes m) (type_nodes m))
