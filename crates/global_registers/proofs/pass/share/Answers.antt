use Rattle.std.proofs.Common.{◌≡◌, List, map, subst, ap, sym, ◌∙◌}
use Rattle.mir_func.specs.declared.block.Block.{Block}
use Rattle.mir_func.specs.Function.{Function}
use Rattle.mir_func.specs.Sound.{IsSound}
use Rattle.global_registers.specs.Shared.{block_by}
use Rattle.global_registers.proofs.Sound.{sound_by}
use Rattle.global_registers.proofs.pass.share.Goals as goal

pub invariant_of-f : goal.invariant_of-f
invariant_of-f c =
    let f : Function =
    record { name = c.f.inside.name; slots = c.f.inside.slots; objects = c.f.inside.objects; blocks = c.f.inside.blocks } in
    let is : c.in_ok-blocks.blocks ≡ map (block_by c.args.shares) c.f.inside.blocks =
    c.in_ok-blocks.ensures ∙ ap (map (block_by c.args.shares)) c.as_slice.ensures in
    subst (λ (bs : List Block). IsSound (record { name = f.name; slots = f.slots; objects = f.objects; blocks = bs })) (sym is)
    (sound_by c.args.shares f c.f.invariant)
