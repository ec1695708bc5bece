use Rattle.std.proofs.Common.{◌∙◌}
use Rattle.mir_pool.specs.Pool.{constant_ids}
use Rattle.read_program.proofs.ConstantSets.{same_known}
use Rattle.read_program.proofs.pool.are_known.Goals as goal

pub returns : goal.returns
returns c = c.are_among.ensures ∙ same_known c.in_ok-set.set (constant_ids c.args.constants.now) c.in_ok-set.ensures c.args.blocks.now
