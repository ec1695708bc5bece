use Rattle.std.proofs.Common.{ℕ, List, Bool, ◌||◌, ap, ◌∙◌, subst, arith}
use Rattle.std.specs.List.{list_any}
use Rattle.mir_func.specs.declared.block.Block.{Block}
use Rattle.mir_func.specs.declared.item.Item.{Item}
use Rattle.pass_liveness.specs.Sets.{has_bit}
use Rattle.pass_trait.specs.Causes.{names}
use Rattle.scan_allot.proofs.Inserted.{inserts_begin, inserts_go_on, inserts_end}
use Rattle.scan_allot.proofs.named.insert_blocks.Goals as goal

abbrev test : ℕ → Block → Bool
test r b = list_any (λ i. names r i.kind) b.items

pub loop-block-init : goal.loop-block-init
loop-block-init c = inserts_begin test c.args.blocks.now c.args.named.now

pub loop-block-preserved : goal.loop-block-preserved
loop-block-preserved c =
    inserts_go_on test c.args.blocks.now c.args.named.now c.loop-block.named c.loop-block.invariant c.block-item.result c.loop-block-test.true c.block-item.is
    c.insert_items.new.named
    (λ r. c.insert_items.ensures r ∙
    ap (λ (is : List Item). list_any (λ i. names r i.kind) is || has_bit c.loop-block.named r) c.as_slice.ensures)

pub returns : goal.returns
returns c = inserts_end test c.args.blocks.now c.args.named.now c.loop-block.named c.loop-block.invariant c.loop-block-test.false
