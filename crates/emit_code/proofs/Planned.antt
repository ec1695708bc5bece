-- The plan of a function.
use Rattle.std.proofs.Common.{◌≡◌, ℕ, ◌+◌, ◌≤◌, Bool, List, [], ◌∷◌, length, ap, ◌∙◌, arith, true, false}
use Rattle.std.specs.Prelude.{sum_by, slice_index}
use Rattle.std.proofs.lemmas.List.{length-map}
use Rattle.std.proofs.lemmas.List.Sums.{sum_by-cons}
use Rattle.rv64_instr.specs.Row.{Row, row_of}
use Rattle.rv64_instr.specs.LocationEffects.{has_site}
use Rattle.mir_func.specs.declared.block.Block.{Block}
use Rattle.mir_func.specs.declared.item.Item.{Item}
use Rattle.mir_func.specs.declared.item.ItemKind.{ItemKind}
use Rattle.mir_func.specs.declared.item.ItemKind.TheVariants.{Code, Mark, Phi}
use Rattle.mir_func.specs.declared.position.Pos.{Pos}
use Rattle.mir_func.specs.declared.exit.Exit.{Exit}
use Rattle.mir_func.specs.declared.exit.Exit.TheVariants.{Onward, Perhaps, Always, Final}
use Rattle.mir_func.specs.Exits.{row_exit}
use Rattle.emit_code.specs.declared.plan.ItemLayout.{ItemLayout}
use Rattle.emit_code.specs.Counts.{row_words, kind_count, item_count, count_of, exit_words}
use Rattle.emit_code.specs.Rule.{Layout, start_of, sites_from}
use Rattle.emit_code.specs.steps.Places.{items_count, first_of}
use Rattle.emit_code.specs.steps.Spans.{spans_of, site_span, sums_from}
use Rattle.emit_code.specs.steps.Plans.{IsPlan}
use Rattle.emit_code.proofs.Sites.{length_from}
use Rattle.emit_code.proofs.Settled.{sum_there}

-- ---- counts

exit_counts : (e : Exit) (site : Bool) → 1 ≤ exit_words e site
exit_counts (Perhaps n) site = omega arith
exit_counts (Always n) site = omega arith
exit_counts Onward true = omega arith
exit_counts Onward false = omega arith
exit_counts Final true = omega arith
exit_counts Final false = omega arith

row_counts : (row : Row) → 1 ≤ row_words row
row_counts row = exit_counts (row_exit row) (has_site row)

kind_counts : (kind : ItemKind) → 1 ≤ kind_count kind
kind_counts (Code i k) = row_counts (row_of i)
kind_counts (Mark v m) = omega arith
kind_counts (Phi p k) = omega arith

items_counted : (items : List Item) → length items ≤ sum_by item_count items
items_counted [] = omega arith
items_counted (i ∷ items) = omega (arith, kind_counts i.kind, sum_by-cons item_count i items, items_counted items)

pub few_items : (blocks : List Block) → items_count blocks ≤ count_of blocks
few_items [] = omega arith
few_items (b ∷ blocks) =
    omega (
      arith,
      sum_by-cons (λ (x : Block). length x.items) b blocks,
      sum_by-cons (λ (x : Block). sum_by item_count x.items) b blocks,
      items_counted b.items,
      few_items blocks,
    )

pub spans_length : (blocks : List Block) (long : Pos → Bool) → length (spans_of blocks long) ≡ items_count blocks
spans_length blocks long = length-map (sites_from 0 blocks) (site_span blocks long) ∙ length_from 0 blocks

-- ---- addresses

pub starts_at : (l : Layout) (p : ItemLayout) (n k : ℕ) → IsPlan l p → k ≡ first_of l.framed.blocks n → p.base + slice_index p.sums k ≡ start_of l n
starts_at l p n k is e =
    (λ i. is.base i + slice_index (is.sums i) (e i))
    ∙ ap (λ spans. l.base + slice_index (sums_from 0 spans) (first_of l.framed.blocks n)) is.spans
    ∙ ap (λ (x : ℕ). l.base + x) (sum_there l.long l.framed.blocks n)
