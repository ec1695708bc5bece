use Rattle.std.proofs.Common.{refl}
use Rattle.compile_function.proofs.Values.{are_values}
use Rattle.kept_lists.proofs.lists.kept_lists.Goals as goal

pub returns-clause-exact : goal.returns-clause-exact
returns-clause-exact c =
    c.in_ok-lists.ensures.exact (are_values _ _ _ _ _ _ c.framed_of.ensures refl c.as_slice.ensures c.as_slice-2.ensures
    c.in_ok-parts.ensures.things c.in_ok-parts.ensures.enough c.in_ok-parts.ensures.entries c.in_ok-parts.ensures.for_all)
