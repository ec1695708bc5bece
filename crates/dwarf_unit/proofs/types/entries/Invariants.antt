use Rattle.std.proofs.Common.{◌≡◌, ◌++◌, drop}
use Rattle.dwarf_unit.specs.Unit.{base_entries}
use Rattle.dwarf_unit.proofs.types.entries.Given as goal

abbrev pub invariant-loop-node : goal.invariant-loop-node
invariant-loop-node l = l.entries ++ base_entries l.meta (drop l.node-index l.nodes) ≡ base_entries l.meta l.nodes
