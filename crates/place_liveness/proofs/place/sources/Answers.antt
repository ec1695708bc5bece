use Rattle.std.proofs.Common.{◌≡◌, ℕ, length, None, subst, arith}
use Rattle.place_liveness.specs.Alone.{live_by, AreSources}
use Rattle.place_liveness.proofs.Those.{those_none}
use Rattle.place_liveness.proofs.place.sources.Goals as goal

pub loop-block-init : goal.loop-block-init
loop-block-init c = those_none (length c.args.blocks.now) (λ b. live_by c.args.blocks.now c.args.place.now b None) c.new-sources.result.items c.new-sources.ensures.items

pub loop-block-preserved : goal.loop-block-preserved
loop-block-preserved c = c.in_ok-source.ensures c.loop-block.invariant

pub returns : goal.returns
returns c =
    let all : c.loop-block.block ≡ length c.args.blocks.now = omega arith in
    subst (λ (n : ℕ). AreSources c.args.blocks.now c.args.place.now n c.loop-block.sources.items) all c.loop-block.invariant
