use Rattle.std.proofs.Common.{ap, arith, add-one}
use Rattle.std.proofs.lemmas.Grind.{common_steps}
use Rattle.gen_function.specs.Draws.{Drawn}
use Rattle.gen_function.specs.Generator.{groups}
use Rattle.gen_function.proofs.Given.{groups_give}
use Rattle.gen_function.proofs.group.push_groups.Goals as goal

pub loop-init : goal.loop-init
unfolding groups
loop-init c = grind (arith, common_steps)

pub push_group-requires : goal.push_group-requires
push_group-requires c =
    let e = ap (λ (d : Drawn). d.given) c.loop.invariant.1 in omega (arith, e, groups_give c.loop.counter c.args.draws.now)

pub loop-preserved : goal.loop-preserved
unfolding groups
loop-preserved c = rw add-one (grind (arith, common_steps))
