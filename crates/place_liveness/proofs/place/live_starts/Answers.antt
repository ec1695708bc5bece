use Rattle.std.proofs.Common.{◌≡◌, ℕ, List, length, sym, ap, ◌∙◌, subst, arith, None}
use Rattle.std.specs.Prelude.{◌↔◌}
use Rattle.graph_spread.specs.dataflow.Graph.{AreBlocks}
use Rattle.pass_liveness.specs.mir_func.declared.block.Block.{Block}
use Rattle.pass_liveness.specs.mir_func.Function.{Function}
use Rattle.pass_liveness.specs.mir_func.Sound.{IsSound}
use Rattle.graph_spread.specs.Spread.{IsIn, Spreads}
use Rattle.place_liveness.specs.Alone.{live_by, passes_up, AreSources}
use Rattle.place_liveness.proofs.Those.{those_within}
use Rattle.place_liveness.proofs.Lives.{flags_are}
use Rattle.place_liveness.proofs.place.live_starts.Goals as goal

pub sources-requires : goal.sources-requires
sources-requires c =
    let sound : IsSound c.args.f.now = subst IsSound c.f.view_is c.f.invariant in
    let view : c.as_slice-blocks.result.now ≡ c.args.f.now.blocks = c.as_slice-blocks.ensures ∙ ap (λ (g : Function). g.blocks) c.f.view_is in
    omega (arith, sound.few_blocks, ap (length {A = Block}) view)

pub spread-requires-clause-graph : goal.spread-requires-clause-graph
spread-requires-clause-graph c = c.requires.graph

pub spread-requires-clause-nodes : goal.spread-requires-clause-nodes
spread-requires-clause-nodes c =
    let view : c.as_slice-blocks.result.now ≡ c.args.f.now.blocks = c.as_slice-blocks.ensures ∙ ap (λ (g : Function). g.blocks) c.f.view_is in
    c.requires.long ∙ sym (ap (length {A = Block}) view)

pub spread-requires-clause-sources : goal.spread-requires-clause-sources
spread-requires-clause-sources c =
    let view : c.as_slice-blocks.result.now ≡ c.args.f.now.blocks = c.as_slice-blocks.ensures ∙ ap (λ (g : Function). g.blocks) c.f.view_is in
    let within = those_within (length c.as_slice-blocks.result.now) (λ b. live_by c.as_slice-blocks.result.now c.args.place.now b None)
    (length c.as_slice-blocks.result.now) c.in_ok-sources.sources.items
    c.in_ok-sources.ensures in
    subst (λ (ns : List ℕ). AreBlocks (length c.args.ways.now) ns) (sym c.as_slice.ensures.value)
    (subst (λ (n : ℕ). AreBlocks n c.in_ok-sources.sources.items) (ap (length {A = Block}) view ∙ sym c.requires.long) within)

pub returns : goal.returns
returns c =
    let sound : IsSound c.args.f.now = subst IsSound c.f.view_is c.f.invariant in
    let blocks = c.args.f.now.blocks in
    let x = c.args.place.now in
    let up = c.args.ways.now in
    let all = c.as_slice.result.now in
    let flags = c.in_ok-live.live.items in
    let view : c.as_slice-blocks.result.now ≡ blocks = c.as_slice-blocks.ensures ∙ ap (λ (g : Function). g.blocks) c.f.view_is in
    let sources : AreSources blocks x (length blocks) all =
    subst (λ (bs : List Block). AreSources bs x (length bs) all) view
    (subst (λ (ns : List ℕ). AreSources c.as_slice-blocks.result.now x (length c.as_slice-blocks.result.now) ns) (sym c.as_slice.ensures.value)
    c.in_ok-sources.ensures) in
    let exact = subst (λ (bs : List Block). (b : ℕ) → IsIn flags b ↔ Spreads up (passes_up bs x) all b) view c.in_ok-live.ensures.exact in
    record {
      long = c.in_ok-live.ensures.long ∙ c.requires.long;
      each = λ b inside sp resolve. flags_are blocks x sp resolve sound.blocks_apart up c.requires all sources flags exact b inside;
    }
