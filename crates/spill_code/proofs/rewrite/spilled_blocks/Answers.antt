use Rattle.std.proofs.Common.{subst, All}
use Rattle.std.proofs.lemmas.List.Elements.{All-head, All-tail}
use Rattle.mir_func.specs.declared.block.Block.{Block}
use Rattle.spill_code.specs.Room.{HasRoom, HaveRoom}
use Rattle.spill_code.proofs.rewrite.spilled_blocks.Goals as goal

pub first_block-requires : goal.first_block-requires
first_block-requires c =
    All-head (λ (b : Block). All (HasRoom c.args.s.now) b.items) c.in-Some.first.now c.in-Some.rest.now
    (subst (HaveRoom c.args.s.now) c.in-Some.ensures.cases.0 c.requires)

pub push_blocks-requires : goal.push_blocks-requires
push_blocks-requires c =
    All-tail (λ (b : Block). All (HasRoom c.args.s.now) b.items) c.in-Some.first.now c.in-Some.rest.now
    (subst (HaveRoom c.args.s.now) c.in-Some.ensures.cases.0 c.requires)
