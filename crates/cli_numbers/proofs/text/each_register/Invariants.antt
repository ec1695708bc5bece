use Rattle.std.proofs.Common.{◌≡◌, ◌≢◌, map, take}
use Rattle.std.specs.List.{All, AllPairs, Contains}
use Rattle.rv64_instr.specs.Reserve.{RESERVABLE}
use Rattle.cli_numbers.specs.Reserve.{register_name}
use Rattle.cli_numbers.proofs.text.each_register.Given as goal

abbrev pub invariant-loop-word : goal.invariant-loop-word
invariant-loop-word l = record {
  each : take l.word-index (map (λ w. w.now) l.words) ≡ map register_name l.registers;
  reservable : All (Contains RESERVABLE) l.registers;
  once : AllPairs (λ r s. r ≢ s) l.registers;
}
