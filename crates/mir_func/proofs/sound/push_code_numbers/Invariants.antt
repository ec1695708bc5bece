use Rattle.std.proofs.Common.{◌≡◌, ◌++◌, take}
use Rattle.std.specs.List.{filter_map}
use Rattle.mir_func.specs.Sound.{code_number}
use Rattle.mir_func.proofs.sound.push_code_numbers.Given as goal

abbrev pub invariant-loop-i : goal.invariant-loop-i
invariant-loop-i l = l.numbers.items ≡ l.initial.numbers.items ++ filter_map (λ i. code_number i.kind) (take l.i-index l.items)
