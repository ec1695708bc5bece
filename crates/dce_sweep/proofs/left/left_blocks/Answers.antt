use Rattle.std.proofs.Common.{◌≡◌, ◌<◌, ◌≤◌, ℕ, List, ◌++◌, map, length, get_or, Bool, refl, ap, ◌∙◌, subst}
use Rattle.std.proofs.lemmas.List.{take_all}
use Rattle.mir_func.specs.declared.block.Block.{Block}
use Rattle.mir_func.specs.declared.item.Item.{Item}
use Rattle.mir_func.specs.Function.{Function}
use Rattle.mir_func.specs.Sound.{IsSound}
use Rattle.dce_stale.specs.dce_rule.Wrong.{silenced_block}
use Rattle.dce_stale.specs.Sets.{StaleSets, wrong_of, starts_of}
use Rattle.dce_sweep.specs.Left.{lost_in}
use Rattle.dce_sweep.proofs.Steps.{one_left, one_lost}
use Rattle.dce_sweep.proofs.Whole.{slots_in, block_is, lost_is}
use Rattle.dce_sweep.proofs.left.left_blocks.Goals as goal

pub left_items-requires : goal.left_items-requires
left_items-requires c =
    let n = c.loop-block.block in
    let b : Block = c.index-blocks-block.result in
    let all : c.as_slice-blocks.result.now ≡ c.args.f.now.blocks = c.as_slice-blocks.ensures ∙ ap (λ (z : Function). z.blocks) c.f.view_is in
    let lt : n < length c.args.f.now.blocks = subst (λ (xs : List Block). n < length xs) all c.loop-block-test.true in
    slots_in c.args.f.now c.args.wrong.now.slots n b c.as_slice.result.now (subst IsSound c.f.view_is c.f.invariant) c.requires.slots lt
    (c.index-blocks-block.is ∙ ap (λ (xs : List Block). get_or xs n b) all) c.as_slice.ensures

pub loop-block-preserved : goal.loop-block-preserved
loop-block-preserved c =
    let f : Function = c.args.f.now in
    let dead : List (List Bool) = c.args.dead.now in
    let w : StaleSets = c.args.wrong.now in
    let n : ℕ = c.loop-block.block in
    let b : Block = c.index-blocks-block.result in
    let all : c.as_slice-blocks.result.now ≡ f.blocks = c.as_slice-blocks.ensures ∙ ap (λ (z : Function). z.blocks) c.f.view_is in
    let lt : n < length f.blocks = subst (λ (xs : List Block). n < length xs) all c.loop-block-test.true in
    let is : b ≡ get_or f.blocks n b = c.index-blocks-block.is ∙ ap (λ (xs : List Block). get_or xs n b) all in
    let set : List ℕ = c.at_start-set.result in
    let vs : List Bool = c.verdicts_at.result.now in
    let xs : List Item = c.as_slice.result.now in
    let made : Block = record { id = b.id; items = c.from.result; source_end = b.source_end } in
    record {
      left = λ ends are. one_left (wrong_of ends f (starts_of w)) ends f.blocks n b lt is c.loop-block.left.items _ made
          (c.loop-block.invariant.left ends are)
          (block_is f dead w c.requires n b lt is set c.at_start-set.ensures vs c.verdicts_at.ensures xs c.as_slice.ensures ends are c.in_ok-items.items.items
          c.in_ok-items.ensures.left made refl c.from.ensures refl) c.in_ok-push.ensures.items;
      lost = λ ends are. one_lost (wrong_of ends f (starts_of w)) ends f.blocks n b lt is c.args.lost.now.items c.loop-block.lost.items
          c.left_items.new.lost.items _ (c.loop-block.invariant.lost ends are)
          (lost_is f dead w c.requires n b lt is set c.at_start-set.ensures vs c.verdicts_at.ensures xs c.as_slice.ensures ends are) c.in_ok-items.ensures.lost;
    }

pub returns-clause-left : goal.returns-clause-left
returns-clause-left c = λ ends are.
    let f : Function = c.args.f.now in
    let all : c.as_slice-blocks.result.now ≡ f.blocks = c.as_slice-blocks.ensures ∙ ap (λ (z : Function). z.blocks) c.f.view_is in
    let le : length f.blocks ≤ c.loop-block.block = subst (λ (xs : List Block). length xs ≤ c.loop-block.block) all c.loop-block-test.false in
    c.loop-block.invariant.left ends are ∙
    ap (map (silenced_block (wrong_of ends f (starts_of c.args.wrong.now)) ends)) (take_all c.loop-block.block f.blocks le)

pub returns-clause-lost : goal.returns-clause-lost
returns-clause-lost c = λ ends are.
    let f : Function = c.args.f.now in
    let all : c.as_slice-blocks.result.now ≡ f.blocks = c.as_slice-blocks.ensures ∙ ap (λ (z : Function). z.blocks) c.f.view_is in
    let le : length f.blocks ≤ c.loop-block.block = subst (λ (xs : List Block). length xs ≤ c.loop-block.block) all c.loop-block-test.false in
    c.loop-block.invariant.lost ends are ∙
    ap (λ (bs : List Block). c.args.lost.now.items ++ lost_in (wrong_of ends f (starts_of c.args.wrong.now)) ends bs) (take_all c.loop-block.block f.blocks le)
