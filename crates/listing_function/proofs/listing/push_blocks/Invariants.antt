use Rattle.std.proofs.Common.{◌≡◌, ℕ, ◌+◌, ◌++◌, drop}
use Rattle.std.specs.List.{flat_map}
use Rattle.mir_func.specs.Sound.{AllItems}
use Rattle.emit_code.specs.Rule.{Layout, entries_at, sites_from}
use Rattle.listing_meaning.specs.Listing.{blocks_listed}
use Rattle.listing_function.specs.steps.Entries.{IsSource, IsPlaced}
use Rattle.listing_function.proofs.Walked.{BlocksSoFar}
use Rattle.listing_function.proofs.listing.push_blocks.Given as goal

abbrev pub invariant-loop-block : goal.invariant-loop-block
invariant-loop-block l = (x : Layout) (b : ℕ) → IsSource x l.offsets → AllItems (λ i. IsPlaced x.framed i.kind) l.blocks →
    drop l.start l.entries ≡ flat_map (entries_at x) (sites_from b l.blocks) →
    BlocksSoFar x (b + l.block-index) (drop l.block-index l.blocks) l.entries l.at l.listed (l.initial.listed ++ blocks_listed x b l.blocks)
