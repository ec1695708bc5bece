use Rattle.std.proofs.Common.{◌≡◌, ◌++◌, List, sym, subst, ap, ◌∙◌, drop, arith}
use Rattle.std.specs.Prelude.{All}
use Rattle.std.specs.List.{flat_map}
use Rattle.std.proofs.lemmas.List.Elements.{All-head, All-tail}
use Rattle.mir_func.specs.declared.item.Item.{Item}
use Rattle.emit_code.specs.Rule.{entries_at, sites_in, sites_from}
use Rattle.emit_code.specs.declared.code.EncodedInstruction.{EncodedInstruction}
use Rattle.listing_text.specs.declared.output.Line.{Line}
use Rattle.listing_text.specs.declared.output.ListedBlock.{ListedBlock}
use Rattle.listing_meaning.specs.Listing.{items_listed, blocks_listed}
use Rattle.listing_function.specs.steps.Entries.{IsPlaced}
use Rattle.listing_function.proofs.Walked.{blocks_apart, whole_here}
use Rattle.listing_function.proofs.listing.block_lines.Goals as goal

pub returns : goal.returns
returns c = λ l source placed here.
    let P : Item → Type 0 = λ i. IsPlaced l.framed i.kind in
    let entries = c.args.entries.now in
    let first = c.args.first.now in
    let body = c.args.body.now in
    let rest : List EncodedInstruction = flat_map (entries_at l) (sites_from 1 body) in
    let fits : All P c.as_slice-items.result.now = subst (All P) (sym c.as_slice-items.ensures) (All-head (λ b. All P b.items) first body placed) in
    let begins = subst (λ (t : List Item). drop 0 entries ≡ flat_map (entries_at l) (sites_in 0 0 t) ++ rest) (sym c.as_slice-items.ensures) (whole_here l
    first body entries here) in
    let made = c.in_ok-at.ensures l 0 rest source fits (λ m. blocks_apart l 0 1 m body (omega arith)) begins in
    let listed = c.in_ok-push_blocks.ensures l 1 source (All-tail (λ b. All P b.items) first body placed) made.1 in (
      made.0 ∙ ap (λ (t : List Line). t ++ items_listed l 0 c.as_slice-items.result.now) c.new-prologue.ensures ∙ ap (items_listed l 0)
          c.as_slice-items.ensures,
      listed ∙ ap (λ (t : List ListedBlock). t ++ blocks_listed l 1 body) c.new-blocks.ensures,
    )
