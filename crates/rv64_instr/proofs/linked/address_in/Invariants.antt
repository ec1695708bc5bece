use Rattle.std.proofs.Common.{◌≡◌, drop}
use Rattle.rv64_instr.specs.Linked.{addresses_in}
use Rattle.rv64_instr.proofs.linked.address_in.Given as goal

abbrev pub invariant-loop-pair : goal.invariant-loop-pair
invariant-loop-pair l = addresses_in (drop l.pair-index l.symbols) l.symbol ≡ addresses_in l.symbols l.symbol
