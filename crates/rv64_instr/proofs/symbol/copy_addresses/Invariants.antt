use Rattle.std.proofs.Common.{◌≡◌, take}
use Rattle.rv64_instr.proofs.symbol.copy_addresses.Given as goal

abbrev pub invariant-loop-pair : goal.invariant-loop-pair
invariant-loop-pair l = l.copied ≡ take l.pair-index l.symbols
