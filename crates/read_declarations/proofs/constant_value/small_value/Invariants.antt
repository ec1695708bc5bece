use Rattle.std.proofs.Common.{◌≡◌, ◌≤◌, drop}
use Rattle.read_metadata.specs.Number.{value_behind}
use Rattle.read_declarations.proofs.constant_value.small_value.Given as goal

abbrev pub invariant-loop-byte : goal.invariant-loop-byte
invariant-loop-byte l = record {
  small : l.value ≤ l.most;
  read : value_behind 10 l.value (drop l.byte-index l.digits) ≡ value_behind 10 0 l.digits;
}
