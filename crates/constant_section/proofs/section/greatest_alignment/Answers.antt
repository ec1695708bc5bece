use Rattle.mir_pool.specs.declared.constant.IntegerType.TheVariants.{Bits8}
use Rattle.mir_pool.specs.declared.constant.PoolConstant.{PoolConstant}
use Rattle.constant_section.specs.Section.{greatest_alignment}
use Rattle.constant_section.proofs.Places.{greatest_more, greatest_all}
use Rattle.constant_section.proofs.section.greatest_alignment.Goals as goal

pub loop-constant-preserved : goal.loop-constant-preserved
loop-constant-preserved c =
    let nothing : PoolConstant = record { id = 0; integer = Bits8; value = 0; alignment = 0 } in
    greatest_more c.args.constants.now c.loop-constant.constant-index nothing c.loop-constant.most c.max-most.result
    (greatest_alignment c.args.alignment c.args.constants.now) c.loop-constant-test.true c.max-most.ensures c.loop-constant.invariant

pub returns : goal.returns
returns c =
    greatest_all c.args.constants.now c.loop-constant.constant-index c.loop-constant.most (greatest_alignment c.args.alignment c.args.constants.now)
    c.loop-constant-test.false c.loop-constant.invariant
