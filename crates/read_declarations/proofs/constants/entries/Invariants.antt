use Rattle.std.proofs.Common.{◌≡◌, [], drop}
use Rattle.mir_pool.specs.Pool.{constant_ids}
use Rattle.read_declarations.specs.Constants.{stray, pool_behind, AreNumbers}
use Rattle.read_declarations.proofs.constants.entries.Given as goal

abbrev pub invariant-loop-index : goal.invariant-loop-index
invariant-loop-index l = record {
  read : pool_behind l.read (drop l.index l.lines) ≡ pool_behind (record { constants = []; refused = stray l.lines }) l.lines;
  known : AreNumbers l.known (constant_ids l.read.constants);
}
