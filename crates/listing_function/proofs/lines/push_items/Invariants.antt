use Rattle.std.proofs.Common.{◌≡◌, ℕ, ◌++◌, List, drop}
use Rattle.std.specs.Prelude.{All}
use Rattle.std.specs.List.{flat_map}
use Rattle.mir_func.specs.Successors.{pos_in}
use Rattle.emit_code.specs.declared.code.EncodedInstruction.{EncodedInstruction as Laid}
use Rattle.emit_code.specs.Rule.{Layout, entries_at, sites_in}
use Rattle.listing_meaning.specs.Listing.{site_lines}
use Rattle.listing_function.specs.steps.Entries.{BeginsApart, IsSource, IsPlaced}
use Rattle.listing_function.proofs.Walked.{ItemsSoFar}
use Rattle.listing_function.proofs.lines.push_items.Given as goal

abbrev pub invariant-loop-item : goal.invariant-loop-item
invariant-loop-item l = (x : Layout) (b : ℕ) (others : List Laid) → IsSource x l.offsets → All (λ i. IsPlaced x.framed i.kind) l.items →
    ((n : ℕ) → BeginsApart (pos_in b n) others) → drop l.start l.entries ≡ flat_map (entries_at x) (sites_in b 0 l.items) ++ others →
    ItemsSoFar x b l.item-index (drop l.item-index l.items) l.entries l.at others l.lines
    (l.initial.lines ++ flat_map (site_lines x) (sites_in b 0 l.items))
