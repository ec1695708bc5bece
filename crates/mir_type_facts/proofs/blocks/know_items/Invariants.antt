use Rattle.std.proofs.Common.{All, take}
use Rattle.mir_type_facts.proofs.blocks.know_items.Given as goal
use Rattle.mir_func.specs.Sound.{HasForm}

abbrev pub invariant-loop-i : goal.invariant-loop-i
invariant-loop-i l = All (λ i. HasForm i.kind) (take l.i-index l.items)
