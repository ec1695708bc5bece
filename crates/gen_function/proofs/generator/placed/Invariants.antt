use Rattle.std.proofs.Common.{◌≡◌}
use Rattle.gen_function.specs.Generator.{placed}
use Rattle.gen_function.proofs.generator.placed.Given as goal

abbrev pub invariant-loop-kind : goal.invariant-loop-kind
invariant-loop-kind l = l.items ≡ placed l.block 0 l.yielded
