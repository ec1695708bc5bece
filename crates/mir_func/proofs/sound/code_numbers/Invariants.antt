use Rattle.std.proofs.Common.{◌≡◌, ◌++◌, drop}
use Rattle.std.specs.List.{filter_map}
use Rattle.mir_func.specs.Sound.{code_number, items_of}
use Rattle.mir_func.proofs.sound.code_numbers.Given as goal

abbrev pub invariant-loop-b : goal.invariant-loop-b
invariant-loop-b l =
    l.numbers.items ++ filter_map (λ i. code_number i.kind) (items_of (drop l.b-index l.blocks)) ≡ filter_map (λ i. code_number i.kind) (items_of l.blocks)
