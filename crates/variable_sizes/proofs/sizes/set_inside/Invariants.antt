use Rattle.std.proofs.Common.{◌≡◌, drop}
use Rattle.variable_sizes.specs.Sizes.{with_inside}
use Rattle.variable_sizes.proofs.sizes.set_inside.Given as goal

abbrev pub invariant-loop-inner : goal.invariant-loop-inner
invariant-loop-inner l = with_inside l.t l.sizes (drop l.inner-index l.inside) ≡ with_inside l.t l.fn.sizes l.inside
