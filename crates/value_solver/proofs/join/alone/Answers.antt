use Rattle.std.proofs.Common.{List, ℕ, subst}
use Rattle.value_solver.specs.Numbering.{IsRenumbered}
use Rattle.value_solver.proofs.Renumbering.{alone_joined}
use Rattle.value_solver.proofs.join.alone.Goals as goal

pub returns : goal.returns
returns c = λ h past.
    rw (c.from.ensures, c.from-2.ensures) (alone_joined h c.args.exit.classes.items c.in_ok-numbers.numbers.items c.args.exit.given.items
    (subst (λ (z : List ℕ). IsRenumbered z c.in_ok-numbers.numbers.items) c.as_slice.ensures.value c.in_ok-numbers.ensures) past)
