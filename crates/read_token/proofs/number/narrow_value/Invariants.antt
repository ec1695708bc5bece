use Rattle.std.proofs.Common.{◌≡◌, ◌^◌, ◌<◌, drop}
use Rattle.read_metadata.specs.Number.{value_behind}
use Rattle.read_token.specs.Number.{value_of}
use Rattle.read_token.proofs.number.narrow_value.Given as goal

abbrev pub invariant-loop-byte : goal.invariant-loop-byte
invariant-loop-byte l = record {
  small : l.value < 2 ^ 128;
  read : value_behind l.base l.value (drop l.byte-index l.digits) ≡ value_of l.base l.digits;
}
