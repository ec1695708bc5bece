use Rattle.std.proofs.Common.{◌≡◌, drop}
use Rattle.mir_func.specs.Graph.{from_block}
use Rattle.sem_interpreter.proofs.blocks.find.Given as goal

abbrev pub invariant-loop-i : goal.invariant-loop-i
invariant-loop-i l = from_block (drop l.i l.blocks) l.id ≡ from_block l.blocks l.id
