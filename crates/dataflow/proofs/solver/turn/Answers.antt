use Rattle.std.proofs.Common.{◌<◌, ℕ, length, ap, ◌∙◌, arith}
use Rattle.std.proofs.Math.Nat.{mul-le-mul_left}
use Rattle.dataflow.proofs.solver.turn.Goals as goal

pub returns-then-not-changed-clause-waiting : goal.returns-then-not-changed-clause-waiting
returns-then-not-changed-clause-waiting g c = λ most few. omega (arith, mul-le-mul_left most c.in_ok-changed.ensures.level)

pub returns-clause-waiting : goal.returns-clause-waiting
returns-clause-waiting g c = λ most few.
    let less : c.args.block < length c.args.dependents.now = omega arith in
    let at = ap (length {A = ℕ}) (c.as_slice.ensures ∙ c.index-dependents-block.is) in
    omega (
      arith,
      c.in_ok-add_all.ensures,
      at,
      few c.args.block c.index-dependents-block.result less,
      mul-le-mul_left most (c.in_ok-changed.ensures.lower c.if-not-changed.false),
    )
