use Rattle.std.proofs.Common.{◌≡◌, ◌<◌, List, false, length, ap, sym, refl, ◌∙◌, subst, arith}
use Rattle.mir_func.specs.declared.block.Block.{Block}
use Rattle.mir_func.specs.Function.{FramedFunction}
use Rattle.emit_code.specs.Counts.{count_of}
use Rattle.emit_code.specs.steps.Places.{items_count, IsTableOf}
use Rattle.emit_code.specs.steps.Spans.{spans_of, sums_from, Settles}
use Rattle.emit_code.proofs.Least.{ended}
use Rattle.emit_code.proofs.Planned.{few_items, spans_length}
use Rattle.emit_code.proofs.plan.ItemLayout.new.Goals as goal

pub new-requires-clause-items : goal.new-requires-clause-items
new-requires-clause-items c =
    let blocks = c.args.framed.now.blocks in
    let few : count_of blocks < 262144 = c.requires.items in
    let same : c.as_slice.result.now ≡ blocks = c.as_slice.ensures ∙ ap (λ (f : FramedFunction). f.blocks) c.framed.view_is in
    omega (arith, ap items_count same, few_items blocks, few)

pub settle-requires : goal.settle-requires
settle-requires c =
    let blocks = c.args.framed.now.blocks in
    let few : count_of blocks < 262144 = c.requires.items in
    let same : c.as_slice-2.result.now ≡ blocks = c.as_slice-2.ensures ∙ ap (λ (f : FramedFunction). f.blocks) c.framed.view_is in
    omega (
      arith,
      ap length (c.in_ok-spans.ensures ∙ ap (λ (b : List Block). spans_of b (λ p. false)) same),
      spans_length blocks (λ p. false),
      few_items
          blocks,
      few,
    )

pub returns : goal.returns
returns c =
    let f = c.args.framed.now in
    let blocks : c.framed.inside.blocks ≡ f.blocks = ap (λ (g : FramedFunction). g.blocks) c.framed.view_is in
    let first : c.as_slice.result.now ≡ f.blocks = c.as_slice.ensures ∙ blocks in
    let second : c.as_slice-2.result.now ≡ f.blocks = c.as_slice-2.ensures ∙ blocks in
    let short : c.in_ok-spans.spans ≡ spans_of f.blocks (λ p. false) = c.in_ok-spans.ensures ∙ ap (λ (b : List Block). spans_of b (λ p. false)) second in
    let settles : Settles c.in_ok-spans.spans c.settle.new.spans = c.in_ok-sums.ensures.settles in
    let end = ended f c.args.base c.in_ok-spans.spans c.settle.new.spans short settles in
    let spans : c.spans.inside.items.items ≡ c.settle.new.spans = c.spans.view_is in
    record {
      long = end.long;
      settled = end.settled;
      plan = record {
        base = refl;
        table = subst (λ (b : List Block). IsTableOf b c.in_ok-table.table) first c.in_ok-table.ensures;
        spans = spans ∙ end.is;
        sums = c.in_ok-sums.ensures.sums ∙ ap (sums_from 0) (sym spans);
        objects = c.in_ok-new.ensures;
      };
    }
