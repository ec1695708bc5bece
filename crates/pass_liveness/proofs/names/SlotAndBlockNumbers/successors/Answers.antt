use Rattle.std.proofs.Common.{◌≡◌, ◌+◌, ℕ, List, length, sym, ap, ◌∙◌, subst, arith, length-append}
use Rattle.std.specs.Prelude.{All}
use Rattle.std.proofs.lemmas.List.{length-map}
use Rattle.std.proofs.lemmas.List.Elements.{All-push}
use Rattle.mir_func.specs.declared.block.Block.{Block}
use Rattle.mir_func.specs.Sound.{IsSound}
use Rattle.dataflow.specs.Graph.{AreBlocks}
use Rattle.pass_liveness.proofs.names.SlotAndBlockNumbers.successors.Goals as goal

pub loop-block-init : goal.loop-block-init
loop-block-init c =
    let e = c.in_ok-ways.ensures.items in record { long = ap (length {A = List ℕ}) e; within = rw e (λ k d less. absurd (omega arith)) }

pub add_all-requires-clause-few : goal.add_all-requires-clause-few
add_all-requires-clause-few c =
    let sound : IsSound c.args.f.now = subst IsSound c.f.view_is c.f.invariant in
    let long = ap (length {A = ℕ}) c.requires ∙ length-map c.args.f.now.blocks (λ (b : Block). b.id) in
    omega (arith, long, sound.few_blocks)

pub add_all-requires-clause-blocks : goal.add_all-requires-clause-blocks
add_all-requires-clause-blocks c = rw c.new-indices.ensures (λ k d less. absurd (omega arith))

pub loop-block-preserved : goal.loop-block-preserved
loop-block-preserved c =
    let e = c.in_ok-push.ensures.items in
    record {
      long = ap length e ∙ length-append c.loop-block.ways.items _ ∙ ap (λ (z : ℕ). z + 1) c.loop-block.invariant.long;
      within = rw e (All-push (AreBlocks (length c.args.self.now.blocks)) c.loop-block.ways.items _ c.loop-block.invariant.within c.in_ok-add_all.ensures);
    }

pub returns-clause-long : goal.returns-clause-long
returns-clause-long c =
    let view : c.f.inside.blocks ≡ c.args.f.now.blocks = cc in
    omega (arith, ap (length {A = Block}) view, c.len-count.ensures, c.loop-block.invariant.long)

pub returns-clause-few : goal.returns-clause-few
returns-clause-few c =
    let sound : IsSound c.args.f.now = subst IsSound c.f.view_is c.f.invariant in omega (arith, returns-clause-long c, sound.few_blocks)

pub returns-clause-graph : goal.returns-clause-graph
returns-clause-graph c =
    let long = ap (length {A = ℕ}) c.requires ∙ length-map c.args.f.now.blocks (λ (b : Block). b.id) in
    subst (λ (n : ℕ). All (AreBlocks n) c.loop-block.ways.items) (long ∙ sym (returns-clause-long c)) c.loop-block.invariant.within
