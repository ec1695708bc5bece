-- What a type is, from its node, by the nodes of all types. (LLVM Language Reference Manual, "DIBasicType", "DIDerivedType", "DICompositeType" and
-- "DISubroutineType". DWARF 5, chapter 5.)
use Rattle.std.specs.Prelude.{ℕ, ◌/◌, ◌%◌, ◌==◌, true, false, if◌then◌else◌, Option, Some, None, List, [], ◌∷◌}
use Rattle.std.specs.List.{filter_map}
use Rattle.std.specs.Option.{option_and_then, option_map}
use Rattle.read_debug_nodes.specs.declared.node.DebugNode.{DebugNode}
use Rattle.read_debug_nodes.specs.declared.node.DebugNode.TheVariants as nodes
use Rattle.read_debug_nodes.specs.declared.node.DebugBaseType.{DebugBaseType}
use Rattle.read_debug_nodes.specs.declared.node.DerivedForm.{DerivedForm}
use Rattle.read_debug_nodes.specs.declared.node.DerivedForm.TheVariants as derived
use Rattle.read_debug_nodes.specs.declared.node.DerivedType.{DerivedType}
use Rattle.read_debug_nodes.specs.declared.node.CompositeForm.{CompositeForm}
use Rattle.read_debug_nodes.specs.declared.node.CompositeForm.TheVariants as composite
use Rattle.read_debug_nodes.specs.declared.node.CompositeType.{CompositeType}
use Rattle.read_debug_nodes.specs.Maps.{DebugMaps}
use Rattle.read_debug_nodes.specs.Metadata.{node_at}
use Rattle.type_nodes.specs.declared.shape.Shape.{Shape}
use Rattle.type_nodes.specs.declared.shape.Shape.TheVariants.{Base, Pointer, Qualifier, Typedef, Declaration, Record, Enumeration, Array, Subroutine}
use Rattle.read_types.specs.Tags.{DW_TAG_class_type, DW_TAG_enumeration_type, DW_TAG_pointer_type, DW_TAG_reference_type, DW_TAG_structure_type}
use Rattle.read_types.specs.Tags.{DW_TAG_union_type, DW_TAG_const_type, DW_TAG_volatile_type, DW_TAG_restrict_type, DW_TAG_rvalue_reference_type}
use Rattle.read_types.specs.Tags.{DW_TAG_atomic_type}
use Rattle.read_types.specs.Indices.{index_in, index_or_past}
use Rattle.read_types.specs.Parts.{counts_at, elements_at, ends_open, enumerators_at, members_at}

abbrev pub base_shape : DebugBaseType → Shape
base_shape t = Base t.name t.size t.encoding

abbrev pub derived_by : DerivedForm → (name : List ℕ) → (base : Option ℕ) → Option Shape
derived_by derived.Pointer name base = Some (Pointer DW_TAG_pointer_type base)
derived_by derived.Reference name base = Some (Pointer DW_TAG_reference_type base)
derived_by derived.RvalueReference name base = Some (Pointer DW_TAG_rvalue_reference_type base)
derived_by derived.Const name base = Some (Qualifier DW_TAG_const_type base)
derived_by derived.Volatile name base = Some (Qualifier DW_TAG_volatile_type base)
derived_by derived.Restrict name base = Some (Qualifier DW_TAG_restrict_type base)
derived_by derived.Atomic name base = Some (Qualifier DW_TAG_atomic_type base)
derived_by derived.Typedef name base = Some (Typedef name base)
derived_by derived.Member name base = None
derived_by derived.Other name base = None

-- a type that is made from another one
abbrev pub derived_shape : (types : List ℕ) → DerivedType → Option Shape
derived_shape types d = derived_by d.form d.name (option_map (index_in types) d.base)

abbrev pub subroutine_by : (types : List ℕ) → Option (List (Option ℕ)) → Shape
subroutine_by types None = Subroutine None [] false
subroutine_by types (Some []) = Subroutine None [] false
subroutine_by types (Some (first ∷ parameters)) =
    Subroutine (option_map (index_in types) first) (filter_map (option_map (index_in types)) parameters) (ends_open parameters)

module _ (m : DebugMaps) (types : List ℕ) where
  -- a record with a tag, or its declaration. Its size is a whole number of bytes
  abbrev pub record_shape : (tag : ℕ) → CompositeType → Option Shape
  record_shape tag c =
      if c.size % 8 == 0
      then (if c.declaration then Some (Declaration tag c.name) else Some (Record tag c.name (c.size / 8) (members_at m types c.elements)))
      else None

  -- an enumeration, or its declaration. Its size is a whole number of bytes
  abbrev pub enumeration_shape : CompositeType → Option Shape
  enumeration_shape c =
      if c.size % 8 == 0
      then (if c.declaration
      then Some (Declaration DW_TAG_enumeration_type c.name)
      else Some (Enumeration c.name (c.size / 8) (option_map (index_in types) c.base) (enumerators_at m c.elements)))
      else None

  -- an array, that isn't a vector
  abbrev pub array_shape : CompositeType → Option Shape
  array_shape c = if c.vector then None else option_map (Array (index_or_past types c.base)) (counts_at m c.elements)

  abbrev pub composite_by : CompositeForm → CompositeType → Option Shape
  composite_by composite.Structure c = record_shape DW_TAG_structure_type c
  composite_by composite.Union c = record_shape DW_TAG_union_type c
  composite_by composite.Class c = record_shape DW_TAG_class_type c
  composite_by composite.Enumeration c = enumeration_shape c
  composite_by composite.Array c = array_shape c
  composite_by composite.Other c = None

  -- a type with parts
  abbrev pub composite_shape : CompositeType → Option Shape
  composite_shape c = composite_by c.form c

  -- a function's type, by the tuple of the types of its result and its parameters. A missing last one leaves the parameters open
  abbrev pub subroutine_shape : (tuple : Option ℕ) → Shape
  subroutine_shape tuple = subroutine_by types (elements_at m tuple)

  -- the type that a node is, if it is one
  abbrev pub shape_of : DebugNode → Option Shape
  shape_of (nodes.BaseType t) = Some (base_shape t)
  shape_of (nodes.Derived d) = derived_shape types d
  shape_of (nodes.Composite c) = composite_shape c
  shape_of (nodes.Subroutine tuple) = Some (subroutine_shape tuple)
  shape_of _ = None

  -- the type that the node with a number is, if it is one
  abbrev pub shape_at : ℕ → Option Shape
  shape_at n = option_and_then shape_of (node_at m n)
