use Rattle.std.proofs.Common.{◌≡◌, ℕ, suc, List, ◌∷◌, drop, drop-cons, ap, sym, ◌∙◌, arith}
use Rattle.mir_func.specs.declared.block.Block.{Block}
use Rattle.spill_code.specs.declared.spilling.SlotAssignment.{SlotAssignment}
use Rattle.spill_debug.specs.RewrittenDebugItems.{number_behind, number_beyond}
use Rattle.spill_debug.proofs.Numbers.{beyond_up}
use Rattle.spill_debug.proofs.marks.blocks_asked.Goals as goal

pub block_asked-requires : goal.block_asked-requires
block_asked-requires c =
    let homes : List SlotAssignment = c.args.s.now.homes in
    let blocks : List Block = c.args.blocks.now in
    let b : Block = c.b-item.result in
    let i : ℕ = c.loop-b.b-index in
    let d : drop i blocks ≡ b ∷ drop (suc i) blocks = drop-cons blocks i b c.loop-b-test.true ∙ ap (λ (y : Block). y ∷ drop (suc i) blocks) (sym c.b-item.is) in
    let e : number_beyond homes (number_behind homes c.loop-b.fresh b.items) (drop (suc i) blocks) ≡ number_beyond homes c.args.fresh blocks =
    ap (number_beyond homes c.loop-b.fresh) (sym d) ∙ c.loop-b.invariant.1 in
    let up = beyond_up homes (number_behind homes c.loop-b.fresh b.items) (drop (suc i) blocks) in
    let h = c.requires in
    omega (arith, e, up, h)
