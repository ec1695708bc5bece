use Rattle.std.proofs.Common.{◌≡◌, drop}
use Rattle.variable_sizes.specs.Sizes.{list_sizes, with_functions}
use Rattle.variable_sizes.proofs.sizes.sizes_by.Given as goal

abbrev pub invariant-loop-function : goal.invariant-loop-function
invariant-loop-function l =
    with_functions l.t l.sizes.items (drop l.function-index l.unit.functions) ≡ list_sizes l.t l.count l.unit
