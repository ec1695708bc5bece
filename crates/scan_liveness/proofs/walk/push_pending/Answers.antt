use Rattle.std.proofs.Common.{ℕ, List, Bool, ◌++◌, sym, ap, ◌∙◌, subst, arith}
use Rattle.std.specs.Prelude.{All}
use Rattle.rv64_instr.specs.declared.place.Place.{Place}
use Rattle.mir_func.specs.declared.block.Block.{Block}
use Rattle.mir_func.specs.declared.item.Item.{Item}
use Rattle.mir_func.specs.Sound.{SlotsIn}
use Rattle.pass_liveness.specs.Liveness.{has_at_start}
use Rattle.scan_intervals.specs.Points.{points_in}
use Rattle.scan_liveness.specs.Described.{DescribesPending, is_in}
use Rattle.scan_liveness.proofs.Walked.{block_among, blocks_begin, blocks_go_on}
use Rattle.scan_liveness.proofs.walk.push_pending.Goals as goal

pub loop-block-init : goal.loop-block-init
loop-block-init c =
    blocks_begin (has_at_start c.args.numbers.now.slots c.args.numbers.now.blocks c.args.starts.now) c.args.numbers.now.slots c.args.blocks.now
    c.args.masks.now.items c.args.pending.now c.args.extents.now.items

pub push_items-requires-clause-slots : goal.push_items-requires-clause-slots
push_items-requires-clause-slots c =
    let w = c.loop-block.invariant in
    subst (λ (is : List Item). All (λ i. SlotsIn c.args.numbers.now.slots i.kind) is) (sym c.as_slice.ensures)
    (block_among (λ (b : Block). All (λ i. SlotsIn c.args.numbers.now.slots i.kind) b.items) c.args.blocks.now c.in-Some.rest.now c.loop-block.above.now
    c.in-Some.block.now w.below c.in-Some.ensures.cases.0 w.all c.requires.slots)

pub push_items-requires-clause-few : goal.push_items-requires-clause-few
push_items-requires-clause-few c = let long = c.loop-block.invariant.long in let few = c.requires.few in omega (arith, long, few)

pub loop-block-preserved : goal.loop-block-preserved
loop-block-preserved c =
    let slots : List ℕ = c.args.numbers.now.slots in
    let S : ℕ → Place → Bool = has_at_start c.args.numbers.now.slots c.args.numbers.now.blocks c.args.starts.now in
    let w = c.loop-block.invariant in
    blocks_go_on w c.in-Some.rest.now c.in-Some.block.now c.in-Some.ensures.cases.0 c.push_items.new.masks.items c.push_items.new.pending
    c.push_items.new.extents.items c.in_ok-push_items.ensures.long
    (λ points d. subst (λ (is : List Item). DescribesPending (points_in S is c.loop-block.next ++ points) c.push_items.new.masks.items
    (is_in slots c.push_items.new.pending) c.push_items.new.extents.items)
    c.as_slice.ensures (c.in_ok-push_items.ensures.described points d))
