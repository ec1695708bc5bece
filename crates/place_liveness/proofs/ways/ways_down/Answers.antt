use Rattle.std.proofs.Common.{◌≡◌, ◌<◌, ℕ, List, length, sym, ap, ◌∙◌, subst, arith}
use Rattle.std.specs.Prelude.{All}
use Rattle.std.proofs.lemmas.List.{length-map}
use Rattle.std.proofs.lemmas.List.Elements.{All-push}
use Rattle.graph_spread.specs.dataflow.Graph.{AreBlocks}
use Rattle.pass_liveness.specs.mir_func.declared.block.Block.{Block}
use Rattle.pass_liveness.specs.mir_func.Sound.{IsSound}
use Rattle.pass_liveness.specs.mir_func.Successors.{numbers_of}
use Rattle.place_liveness.specs.Alone.{AreListed}
use Rattle.place_liveness.proofs.Listed.{listing_none, listing_more, listing_all}
use Rattle.place_liveness.proofs.ways.ways_down.Goals as goal

pub loop-block-init : goal.loop-block-init
loop-block-init c =
    let e = c.in_ok-ways.ensures.items in
    record { within = rw e (λ k d less. absurd (omega arith)); listed = listing_none c.args.f.now.blocks c.in_ok-ways.ways.items e }

pub add_all-requires-clause-few : goal.add_all-requires-clause-few
add_all-requires-clause-few c =
    let sound : IsSound c.args.f.now = subst IsSound c.f.view_is c.f.invariant in
    let long = ap (length {A = ℕ}) c.requires ∙ length-map c.args.f.now.blocks (λ (b : Block). b.id) in
    omega (arith, long, sound.few_blocks)

pub add_all-requires-clause-within : goal.add_all-requires-clause-within
add_all-requires-clause-within c = rw c.new-indices.ensures (λ k d less. absurd (omega arith))

pub loop-block-preserved : goal.loop-block-preserved
loop-block-preserved c =
    let sound : IsSound c.args.f.now = subst IsSound c.f.view_is c.f.invariant in
    let view : c.f.inside.blocks ≡ c.args.f.now.blocks = cc in
    let inside : c.loop-block.block < length c.args.f.now.blocks =
    omega (arith, ap (length {A = Block}) view, c.len-count.ensures, c.loop-block-test.true) in
    let e = c.in_ok-push.ensures.items in
    record {
      within = rw e (All-push (AreBlocks (length c.args.ids.now)) c.loop-block.ways.items _ c.loop-block.invariant.within c.in_ok-add_all.ensures.within);
      listed = listing_more c.args.f.now.blocks c.loop-block.block c.loop-block.ways.items _ _ (numbers_of c.successors.result) sound.blocks_apart inside e
          (subst (λ (ids : List ℕ). AreListed ids (numbers_of c.successors.result) c.add_all.new.ways) c.requires c.in_ok-add_all.ensures.listed)
          c.successors.ensures c.loop-block.invariant.listed;
    }

pub returns-clause-down : goal.returns-clause-down
returns-clause-down c =
    let view : c.f.inside.blocks ≡ c.args.f.now.blocks = cc in
    listing_all c.args.f.now.blocks c.loop-block.block c.loop-block.ways.items
    (omega (arith, ap (length {A = Block}) view, c.len-count.ensures, c.loop-block-test.false)) c.loop-block.invariant.listed

pub returns-clause-few : goal.returns-clause-few
returns-clause-few c =
    let sound : IsSound c.args.f.now = subst IsSound c.f.view_is c.f.invariant in
    omega (arith, (returns-clause-down c).long, sound.few_blocks)

pub returns-clause-graph : goal.returns-clause-graph
returns-clause-graph c =
    let long = ap (length {A = ℕ}) c.requires ∙ length-map c.args.f.now.blocks (λ (b : Block). b.id) in
    subst (λ (n : ℕ). All (AreBlocks n) c.loop-block.ways.items) (long ∙ sym (returns-clause-down c).long) c.loop-block.invariant.within
