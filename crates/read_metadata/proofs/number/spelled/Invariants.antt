use Rattle.std.proofs.Common.{◌≡◌, ◌≤◌, drop}
use Rattle.read_metadata.specs.Number.{value_behind}
use Rattle.read_metadata.proofs.number.spelled.Given as goal
use Rattle.base_ids.specs.Limits.{MAX_NUMBER}

abbrev pub invariant-loop-byte : goal.invariant-loop-byte
invariant-loop-byte l = record {
  small : l.value ≤ MAX_NUMBER;
  read : value_behind l.base l.value (drop l.byte-index l.digits) ≡ value_behind l.base 0 l.digits;
}
