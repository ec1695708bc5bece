use Rattle.std.proofs.Common.{◌≡◌, ◌<◌, ◌≤◌, ◌++◌, ℕ, List, [], ◌∷◌, Option, Some, length, ap, ◌∙◌, sym, subst, arith}
use Rattle.std.specs.Prelude.{slice_get}
use Rattle.mir_func.specs.declared.block.Block.{Block}
use Rattle.mir_func.specs.Function.{Function}
use Rattle.pass_trait.specs.declared.loss.Loss.{Loss}
use Rattle.scan_stale.specs.scan_choice.Given.{given_by}
use Rattle.scan_allot.proofs.Walked.{block_at, down_begins, down_goes_on, down_made, down_lost}
use Rattle.scan_allot.proofs.blocks.blocks_now.Goals as goal

pub loop-at-init : goal.loop-at-init
loop-at-init c =
    down_begins c.args.f.now (given_by c.args.given.now) c.args.stale.now c.new-made.result c.args.lost.now.items c.new-made.ensures c.requires.none

pub loop-at-preserved : goal.loop-at-preserved
loop-at-preserved c =
    let lt : c.loop-at.at < length c.args.f.now.blocks =
    subst (λ (n : ℕ). c.loop-at.at < n) (c.len-at-end.ensures ∙ ap (λ (g : Function). length g.blocks) c.f.view_is) c.loop-at-test.true in
    let w = block_at c.args.f.now.blocks c.loop-at.at lt in
    down_goes_on c.args.f.now (given_by c.args.given.now) c.args.stale.now c.loop-at.invariant w.0 w.1 c.push.new.self c.block_now.new.lost.items
    (c.in_ok-push.ensures.ok ∙ ap (λ (b : Block). c.loop-at.made ++ b ∷ []) (c.in_ok-block_now.ensures.block w.0 w.1)) (c.in_ok-block_now.ensures.lost w.0 w.1)

pub returns-clause-blocks : goal.returns-clause-blocks
returns-clause-blocks c =
    down_made c.args.f.now (given_by c.args.given.now) c.args.stale.now c.loop-at.invariant
    (subst (λ (n : ℕ). n ≤ c.loop-at.at) (c.len-at-end.ensures ∙ ap (λ (g : Function). length g.blocks) c.f.view_is) c.loop-at-test.false)

pub returns-clause-lost : goal.returns-clause-lost
returns-clause-lost c =
    down_lost c.args.f.now (given_by c.args.given.now) c.args.stale.now c.loop-at.invariant
    (subst (λ (n : ℕ). n ≤ c.loop-at.at) (c.len-at-end.ensures ∙ ap (λ (g : Function). length g.blocks) c.f.view_is) c.loop-at-test.false)
