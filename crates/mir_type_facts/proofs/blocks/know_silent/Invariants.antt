use Rattle.std.proofs.Common.{◌<◌, ◌^◌, All, take}
use Rattle.mir_type_facts.proofs.blocks.know_silent.Given as goal

abbrev pub invariant-loop-b : goal.invariant-loop-b
invariant-loop-b l = All (λ b. b.source_end < 2 ^ 32) (take l.b-index l.blocks)
