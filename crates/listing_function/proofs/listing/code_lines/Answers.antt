use Rattle.std.proofs.Common.{◌≡◌, List, subst}
use Rattle.std.specs.Prelude.{IfOk}
use Rattle.std.specs.List.{flat_map}
use Rattle.mir_func.specs.declared.block.Block.{Block}
use Rattle.mir_func.specs.Sound.{AllItems}
use Rattle.emit_code.specs.Rule.{Layout, entries_at, sites_from}
use Rattle.listing_meaning.specs.Listing.{prologue_listed, body_listed}
use Rattle.listing_function.specs.steps.Entries.{IsSource, IsPlaced}
use Rattle.mir_printer.proofs.ListedLemmas.{first_and_rest}
use Rattle.listing_function.proofs.listing.code_lines.Goals as goal

pub returns-in-len1-up : goal.returns-in-len1-up
returns-in-len1-up c =
    let blocks = c.args.blocks.now in
    let first = c.prologue-item.result in
    let whole = first_and_rest blocks first c.in-len1-up.len_at_least c.prologue-item.is in
    subst (λ (bs : List Block). (l : Layout) → IsSource l c.args.offsets.now → AllItems (λ i. IsPlaced l.framed i.kind) bs →
    c.args.entries.now ≡ flat_map (entries_at l) (sites_from 0 bs) →
    IfOk c.block_lines.result (λ lines. (lines.prologue ≡ prologue_listed l bs) × (lines.blocks ≡ body_listed l bs))) whole c.block_lines.ensures
