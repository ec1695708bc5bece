use Rattle.std.proofs.Common.{◌≡◌, ◌++◌, map, drop}
use Rattle.dwarf_unit.specs.Inlined.{subprogram_name}
use Rattle.dwarf_unit.proofs.subprograms.names.Given as goal

abbrev pub invariant-loop-node : goal.invariant-loop-node
invariant-loop-node l = l.names ++ map (subprogram_name l.meta) (drop l.node-index l.nodes) ≡ map (subprogram_name l.meta) l.nodes
