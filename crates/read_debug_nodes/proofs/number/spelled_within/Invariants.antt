use Rattle.std.proofs.Common.{◌≡◌, ◌≤◌, drop}
use Rattle.read_metadata.specs.Number.{value_behind}
use Rattle.read_debug_nodes.proofs.number.spelled_within.Given as goal

abbrev pub invariant-loop-byte : goal.invariant-loop-byte
invariant-loop-byte l = record {
  small : l.value ≤ l.most;
  read : value_behind l.base l.value (drop l.byte-index l.digits) ≡ value_behind l.base 0 l.digits;
}
