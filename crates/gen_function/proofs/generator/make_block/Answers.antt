use Rattle.std.proofs.Common.{length, ap, arith}
use Rattle.std.proofs.lemmas.Grind.{common_steps}
use Rattle.gen_function.proofs.Given.{block_size}
use Rattle.gen_function.proofs.Placing.{block_by_parts}
use Rattle.gen_function.proofs.generator.make_block.Goals as goal

pub overflow_cast-source_end : goal.overflow_cast-source_end
overflow_cast-source_end c =
    let m = block_by_parts c.args.blocks c.args.block c.args.draws.now _ _ _ _ _ _ c.new-kinds.ensures c.in_ok-push_beginning.ensures
    c.in_ok-push_groups.ensures c.in_ok-push_end.ensures in
    omega (arith, ap length m.0, block_size c.args.blocks c.args.block c.args.draws.now)

pub placed-requires : goal.placed-requires
placed-requires c =
    let m = block_by_parts c.args.blocks c.args.block c.args.draws.now _ _ _ _ _ _ c.new-kinds.ensures c.in_ok-push_beginning.ensures
    c.in_ok-push_groups.ensures c.in_ok-push_end.ensures in
    omega (arith, ap length m.0, block_size c.args.blocks c.args.block c.args.draws.now)

pub returns : goal.returns
returns c =
    let m = block_by_parts c.args.blocks c.args.block c.args.draws.now _ _ _ _ _ _ c.new-kinds.ensures c.in_ok-push_beginning.ensures
    c.in_ok-push_groups.ensures c.in_ok-push_end.ensures in
    grind (arith, common_steps)
