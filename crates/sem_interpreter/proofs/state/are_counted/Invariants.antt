use Rattle.std.proofs.Common.{◌<◌, ◌^◌, length, take}
use Rattle.std.specs.Prelude.{All}
use Rattle.sem_interpreter.proofs.state.are_counted.Given as goal

abbrev pub invariant-loop-b : goal.invariant-loop-b
invariant-loop-b l = All (λ b. length b.items < 2 ^ 32) (take l.b-index l.blocks)
