use Rattle.std.proofs.Common.{◌≡◌, ◌<◌, ◌^◌, drop}
use Rattle.rv64_instr.specs.Linked.{folded}
use Rattle.rv64_instr.proofs.linked.folded.Given as goal

abbrev pub invariant-loop-byte : goal.invariant-loop-byte
invariant-loop-byte l = record {
  value : folded l.sum (drop l.byte-index l.bytes) ≡ folded l.start l.bytes;
  below : l.sum < 2 ^ 32;
}
