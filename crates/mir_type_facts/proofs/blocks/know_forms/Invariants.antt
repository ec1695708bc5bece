use Rattle.std.proofs.Common.{All, take}
use Rattle.mir_type_facts.proofs.blocks.know_forms.Given as goal
use Rattle.mir_func.specs.Sound.{HasForm}

abbrev pub invariant-loop-b : goal.invariant-loop-b
invariant-loop-b l = All (λ b. All (λ i. HasForm i.kind) b.items) (take l.b-index l.blocks)
