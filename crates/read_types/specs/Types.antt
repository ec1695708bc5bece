-- The types of a program: of all nodes that are types, in ascending order.
use Rattle.std.specs.Prelude.{ℕ, Bool, List, []}
use Rattle.std.specs.List.{filter, filter_map}
use Rattle.std.specs.Option.{is_some}
use Rattle.read_debug_nodes.specs.Maps.{DebugMaps, numbers_of}
use Rattle.type_nodes.specs.declared.shape.Shape.{Shape}
use Rattle.read_types.specs.Shapes.{shape_at}

-- whether a node is a type: that doesn't depend on which types it names
abbrev pub is_type : DebugMaps → ℕ → Bool
is_type m n = is_some (shape_at m [] n)

-- the nodes of all types, ascending
abbrev pub type_nodes : DebugMaps → List ℕ
type_nodes m = filter (is_type m) (numbers_of m)

-- what each type is
abbrev pub types_of : DebugMaps → List Shape
types_of m = filter_map (shape_at m (type_nodes m)) (type_nodes m)
