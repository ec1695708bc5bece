use Rattle.std.proofs.Common.{sym, subst}
use Rattle.std.proofs.lemmas.List.{take_all}
use Rattle.std.proofs.lemmas.List.Elements.{All-more, All-same}
use Rattle.mir_type_facts.specs.Typed.{IsTypedBlock}
use Rattle.mir_type_facts.proofs.typed.blocks_are_typed.Goals as goal

pub loop-block-preserved : goal.loop-block-preserved
loop-block-preserved c =
    All-more IsTypedBlock c.args.blocks.now c.loop-block.block-index c.block-item.result c.loop-block-test.true c.loop-block.invariant
    (subst IsTypedBlock c.block-item.is c.block_is_typed.ensures)

pub returns : goal.returns
returns c =
    All-same IsTypedBlock c.args.blocks.now _ (sym (take_all c.loop-block.block-index c.args.blocks.now c.loop-block-test.false)) c.loop-block.invariant
