-- The parts of types: members, enumerators, dimensions and parameters. They are the elements of tuples. (LLVM Language Reference Manual, "DICompositeType" and
-- "DISubroutineType".)
use Rattle.std.specs.Prelude.{ℕ, ◌-◌, ◌==◌, ◌&&◌, not, Bool, true, false, if◌then◌else◌, Option, Some, None, List, [], ◌∷◌, length}
use Rattle.std.specs.List.{filter_map, slice_get}
use Rattle.std.specs.Option.{option_and_then, is_some}
use Rattle.read_debug_nodes.specs.declared.node.DebugNode.{DebugNode}
use Rattle.read_debug_nodes.specs.declared.node.DebugNode.TheVariants as nodes
use Rattle.read_debug_nodes.specs.declared.node.DerivedForm.{DerivedForm}
use Rattle.read_debug_nodes.specs.declared.node.DerivedForm.TheVariants as derived
use Rattle.read_debug_nodes.specs.declared.node.DerivedType.{DerivedType}
use Rattle.read_debug_nodes.specs.Maps.{DebugMaps}
use Rattle.read_debug_nodes.specs.Metadata.{node_at}
use Rattle.type_nodes.specs.declared.shape.Member.{Member}
use Rattle.type_nodes.specs.declared.shape.Enumerator.{Enumerator}
use Rattle.read_types.specs.Indices.{index_or_past}

abbrev pub as_tuple : DebugNode → Option (List (Option ℕ))
as_tuple (nodes.Tuple elements) = Some elements
as_tuple _ = None

-- the elements of the tuple that a node is, if it is one
abbrev pub elements_at : DebugMaps → Option ℕ → Option (List (Option ℕ))
elements_at m number = option_and_then as_tuple (option_and_then (node_at m) number)

abbrev pub is_member_form : DerivedForm → Bool
is_member_form derived.Member = true
is_member_form _ = false

-- whether a derived type is a member that is in its record
abbrev pub is_member : DerivedType → Bool
is_member d = is_member_form d.form && not d.in_no_record

abbrev pub as_member : (types : List ℕ) → DebugNode → Option Member
as_member types (nodes.Derived d) =
    if is_member d
    then Some (record { name = d.name; base = index_or_past types d.base; offset = d.offset; size = d.size; bit_field = d.bit_field })
    else None
as_member types _ = None

-- the member that an element is, if it is one
abbrev pub member_at : DebugMaps → (types : List ℕ) → Option ℕ → Option Member
member_at m types element = option_and_then (as_member types) (option_and_then (node_at m) element)

abbrev pub each_in : {X : Type 0} → (Option ℕ → Option X) → Option (List (Option ℕ)) → List X
each_in read None = []
each_in read (Some elements) = filter_map read elements

-- the members among the elements of a tuple
abbrev pub members_at : DebugMaps → (types : List ℕ) → (tuple : Option ℕ) → List Member
members_at m types tuple = each_in (member_at m types) (elements_at m tuple)

abbrev pub as_enumerator : DebugNode → Option Enumerator
as_enumerator (nodes.Enumerator e) = Some (record { name = e.name; value = e.value; negative = e.negative })
as_enumerator _ = None

-- the enumerator that an element is, if it is one
abbrev pub enumerator_at : DebugMaps → Option ℕ → Option Enumerator
enumerator_at m element = option_and_then as_enumerator (option_and_then (node_at m) element)

-- the enumerators among the elements of a tuple
abbrev pub enumerators_at : DebugMaps → (tuple : Option ℕ) → List Enumerator
enumerators_at m tuple = each_in (enumerator_at m) (elements_at m tuple)

abbrev pub as_count : DebugNode → Option (Option ℕ)
as_count (nodes.Subrange d) = if d.lower == 0 then Some d.count else None
as_count _ = None

-- the number of elements in the dimension that an element is, if it is one that begins at 0
abbrev pub count_at : DebugMaps → Option ℕ → Option (Option ℕ)
count_at m element = option_and_then as_count (option_and_then (node_at m) element)

abbrev pub before_counts : Option (Option ℕ) → Option (List (Option ℕ)) → Option (List (Option ℕ))
before_counts (Some c) (Some cs) = Some (c ∷ cs)
before_counts _ _ = None

-- the dimensions that elements are, if all are some
abbrev pub each_count : DebugMaps → List (Option ℕ) → Option (List (Option ℕ))
each_count m [] = Some []
each_count m (e ∷ es) = before_counts (count_at m e) (each_count m es)

-- one dimension at least
abbrev pub not_empty : Option (List (Option ℕ)) → Option (List (Option ℕ))
not_empty (Some (c ∷ cs)) = Some (c ∷ cs)
not_empty _ = None

-- the dimensions that the elements of a tuple are, if there is one and all are some that begin at 0
abbrev pub counts_at : DebugMaps → (tuple : Option ℕ) → Option (List (Option ℕ))
counts_at m tuple = not_empty (option_and_then (each_count m) (elements_at m tuple))

abbrev pub is_missing : Option (Option ℕ) → Bool
is_missing (Some None) = true
is_missing _ = false

-- whether the last of some elements is missing
abbrev pub ends_open : List (Option ℕ) → Bool
ends_open elements = is_missing (slice_get elements (length elements - 1))
