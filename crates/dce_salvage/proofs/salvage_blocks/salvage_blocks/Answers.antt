use Rattle.std.proofs.Common.{◌≡◌, ◌-◌, ℕ, [], length, refl, ap, ◌∙◌, subst, arith}
use Rattle.mir_func.specs.declared.block.Block.{Block}
use Rattle.dce_salvage.specs.SalvageNumbers.{SoFar, salvage_down}
use Rattle.pass_salvage.specs.SalvageAction.{going_from}
use Rattle.dce_salvage.specs.SalvageBlocks.{BlocksSoFar}
use Rattle.dce_salvage.proofs.Offs.{Offs, offs_begin, room, offs_more, offs_end}
use Rattle.dce_salvage.proofs.salvage_blocks.salvage_blocks.Goals as goal

pub loop-at-init : goal.loop-at-init
loop-at-init c =
    let a : BlocksSoFar = record { blocks = []; subs = c.args.subs.now; fresh = c.args.fresh.now; lost = c.args.lost.now.items } in
    let n = c.len-at.ensures in
    let ok = c.args.blocks.now.ok.0 in
    offs_begin c.args.dead.now c.args.blocks.now.items a c.len-at.result c.args.blocks.now.items refl (omega (arith, n, ok)) refl

pub index_mut-requires : goal.index_mut-requires
index_mut-requires c =
    let l = c.loop-at.invariant.long in
    let w = c.loop-at.invariant.within in
    let t = c.loop-at-test.true in
    let ok = c.loop-at.blocks.ok.0 in
    omega (arith, l, w, t, ok)

pub salvage_numbers-requires : goal.salvage_numbers-requires
salvage_numbers-requires c =
    let a : BlocksSoFar = record { blocks = []; subs = c.args.subs.now; fresh = c.args.fresh.now; lost = c.args.lost.now.items } in
    let now : BlocksSoFar = record { blocks = c.loop-at.blocks.items; subs = c.loop-at.subs; fresh = c.loop-at.fresh; lost = c.loop-at.lost.items } in
    let w = c.loop-at.invariant.within in
    let t = c.loop-at-test.true in
    let x : Block = c.index_mut.result.now in
    let e = ap (λ (z : Block). length z.items) c.behind-blocks.view_is in
    let r = room c.args.dead.now c.args.blocks.now.items a c.loop-at.at (c.loop-at.at - 1) (omega (arith, t)) now c.loop-at.invariant (omega (arith, w, t)) x
    c.index_mut.ensures.value c.requires.fresh in
    record { fresh = omega (arith, e, r) }

pub loop-at-preserved : goal.loop-at-preserved
loop-at-preserved c =
    let a : BlocksSoFar = record { blocks = []; subs = c.args.subs.now; fresh = c.args.fresh.now; lost = c.args.lost.now.items } in
    let now : BlocksSoFar = record { blocks = c.loop-at.blocks.items; subs = c.loop-at.subs; fresh = c.loop-at.fresh; lost = c.loop-at.lost.items } in
    let w = c.loop-at.invariant.within in
    let t = c.loop-at-test.true in
    let x : Block = c.index_mut.result.now in
    let same = c.behind-blocks.view_is in
    let e = ap (λ (z : Block). length z.items) same in
    let v = c.verdicts_at-verdicts.ensures in
    let done : SoFar =
    record {
      items = c.salvage_numbers.new.items.items;
      subs = c.salvage_numbers.new.subs;
      fresh = c.salvage_numbers.new.fresh;
      lost =
          c.salvage_numbers.new.lost.items;
    } in
    let most = c.in_ok-salvage_numbers.ensures.counted in
    offs_more c.args.dead.now c.args.blocks.now.items a c.loop-at.at (c.loop-at.at - 1) (omega (arith, t)) now c.loop-at.invariant (omega (arith, w, t)) x
    c.index_mut.ensures.value
    (record { id = c.behind-blocks.inside.0.0; items = c.salvage_numbers.new.items.items; source_end = c.behind-blocks.inside.0.1.1.0 }) done
    (c.in_ok-salvage_numbers.ensures.off ∙
    (λ i. salvage_down (going_from 0 (v i)) (v i) (length (same i).items)
    (record { items = (same i).items; subs = c.loop-at.subs; fresh = c.loop-at.fresh; lost = c.loop-at.lost.items })))
    (λ i. record { id = (same i).id; items = c.salvage_numbers.new.items.items; source_end = (same i).source_end }) (omega (arith, most, e))

pub returns : goal.returns
returns c =
    let a : BlocksSoFar = record { blocks = []; subs = c.args.subs.now; fresh = c.args.fresh.now; lost = c.args.lost.now.items } in
    let now : BlocksSoFar = record { blocks = c.loop-at.blocks.items; subs = c.loop-at.subs; fresh = c.loop-at.fresh; lost = c.loop-at.lost.items } in
    let t = c.loop-at-test.false in
    let zero_is : c.loop-at.at ≡ 0 = omega (arith, t) in
    record {
      off = offs_end c.args.dead.now c.args.blocks.now.items a now
          (subst (λ (n : ℕ). Offs c.args.dead.now c.args.blocks.now.items a n now) zero_is c.loop-at.invariant);
    }
