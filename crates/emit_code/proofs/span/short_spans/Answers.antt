use Rattle.std.proofs.Common.{arith, ◌++◌, List, map, false, take, ◌∙◌, sym, ap}
use Rattle.std.proofs.lemmas.List.{map-append}
use Rattle.emit_code.specs.declared.span.Span.{Span}
use Rattle.emit_code.specs.Rule.{sites_from, sites_in}
use Rattle.emit_code.specs.steps.Spans.{span_of, site_span}
use Rattle.emit_code.proofs.Sites.{sites_more, short_in}
use Rattle.emit_code.proofs.span.short_spans.Goals as goal

pub loop-block-preserved : goal.loop-block-preserved
loop-block-preserved c =
    let blocks = c.args.blocks.now in
    let k = c.loop-block.block-index in
    let b = c.block-item.result in
    let f = site_span blocks (λ p. false) in
    let pushed = c.in_ok-push_spans.ensures blocks c.requires in
    let items = ap (λ xs. map (λ i. span_of blocks false i.kind) xs) c.as_slice.ensures in
    pushed
    ∙ ap (λ (t : List Span). t ++ map (λ i. span_of blocks false i.kind) c.as_slice.result.now) c.loop-block.invariant
    ∙ ap (λ (t : List Span). map f (sites_from 0 (take k blocks)) ++ t) (items ∙ short_in blocks k 0 b.items)
    ∙ sym (ap (map f) (sites_more 0 blocks k k b c.loop-block-test.true c.block-item.is (omega arith))
    ∙ map-append f (sites_from 0 (take k blocks)) (sites_in k 0 b.items))
