use Rattle.std.proofs.Common.{ap, arith, add-one}
use Rattle.std.proofs.lemmas.Grind.{common_steps}
use Rattle.gen_function.specs.Draws.{Drawn}
use Rattle.gen_function.specs.Generator.{blocks_made}
use Rattle.gen_function.proofs.Given.{blocks_give}
use Rattle.gen_function.proofs.generator.make_blocks.Goals as goal

pub loop-b-init : goal.loop-b-init
unfolding blocks_made
loop-b-init c = grind (arith, common_steps)

pub make_block-requires-clause-given : goal.make_block-requires-clause-given
make_block-requires-clause-given c =
    let e = ap (λ (d : Drawn). d.given) c.loop-b.invariant.1 in
    let n = ap (λ (d : Drawn). d.given) c.new-draws.ensures in
    omega (arith, e, n, blocks_give c.args.count c.loop-b.b c.new-draws.result)

pub loop-b-preserved : goal.loop-b-preserved
unfolding blocks_made
loop-b-preserved c = rw add-one (grind (arith, common_steps))
