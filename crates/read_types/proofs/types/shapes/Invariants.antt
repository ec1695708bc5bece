use Rattle.std.proofs.Common.{◌≡◌, take}
use Rattle.std.specs.List.{filter_map}
use Rattle.read_types.specs.Shapes.{shape_at}
use Rattle.read_types.proofs.types.shapes.Given as goal

abbrev pub invariant-loop-node : goal.invariant-loop-node
invariant-loop-node l = l.types ≡ filter_map (shape_at l.m l.nodes) (take l.node-index l.nodes)
