use Rattle.std.proofs.Common.{◌≡◌, take, filter}
use Rattle.read_types.specs.Types.{is_type}
use Rattle.read_types.proofs.types.type_nodes.Given as goal

abbrev pub invariant-loop-number : goal.invariant-loop-number
invariant-loop-number l = l.nodes ≡ filter (is_type l.m) (take l.number-index l.number-items)
