use Rattle.std.proofs.Common.{◌≡◌, ◌+◌, ◌++◌, List, subst, sym, ap, ◌∙◌, suc, drop, arith}
use Rattle.std.specs.Prelude.{All}
use Rattle.std.specs.List.{flat_map}
use Rattle.mir_func.specs.declared.block.Block.{Block}
use Rattle.mir_func.specs.declared.item.Item.{Item}
use Rattle.emit_code.specs.Rule.{entries_at, sites_in, sites_from}
use Rattle.emit_code.specs.declared.code.EncodedInstruction.{EncodedInstruction}
use Rattle.listing_text.specs.declared.output.Line.{Line}
use Rattle.listing_meaning.specs.Listing.{items_listed}
use Rattle.listing_function.specs.steps.Entries.{IsPlaced}
use Rattle.listing_function.proofs.Walked.{blocks_apart, block_here, block_more}
use Rattle.listing_function.proofs.listing.push_blocks.Goals as goal

pub loop-block-preserved : goal.loop-block-preserved
loop-block-preserved c = λ x b source placed here.
    let P : Item → Type 0 = λ i. IsPlaced x.framed i.kind in
    let entries = c.args.entries.now in
    let blocks = c.args.blocks.now in
    let k = c.loop-block.block-index in
    let block = c.block-item.result in
    let less = c.loop-block-test.true in
    let so = c.loop-block.invariant x b source placed here in
    let rest : List EncodedInstruction = flat_map (entries_at x) (sites_from (suc (b + k)) (drop (k + 1) blocks)) in
    let items = c.as_slice.result.now in
    let there = block_here x b blocks k block entries c.loop-block.at c.loop-block.listed _ less c.block-item.is so in
    let fits : All P items = subst (All P) (sym c.as_slice.ensures) (subst (λ (t : Block). All P t.items) (sym c.block-item.is) (placed k block less)) in
    let begins = subst (λ (t : List Item). drop c.loop-block.at entries ≡ flat_map (entries_at x) (sites_in (b + k) 0 t) ++ rest) (sym c.as_slice.ensures)
    there in
    let made = c.in_ok-at.ensures x (b + k) rest source fits (λ m. blocks_apart x (b + k) (suc (b + k)) m (drop (k + 1) blocks) (omega arith)) begins in
    let lined = made.0 ∙ ap (λ (t : List Line). t ++ items_listed x (b + k) items) c.new-lines.ensures ∙ ap (items_listed x (b + k)) c.as_slice.ensures in
    block_more x b blocks k block entries c.loop-block.at c.in_ok-at.at c.push_items.new.lines c.loop-block.listed c.push.new.self _ less c.block-item.is so
    lined made.1 (c.in_ok-push.ensures.ok)
