use Rattle.std.proofs.Common.{ℕ, ◌+◌, refl, sym, subst}
use Rattle.mir_func.specs.Successors.{pos_in}
use Rattle.emit_code.specs.Rule.{Site, entries_at}
use Rattle.emit_code.specs.steps.Emitted.{StandsAt}
use Rattle.emit_code.proofs.Emitting.{block_turn}
use Rattle.emit_code.proofs.entries.push_block.Goals as goal

pub loop-index-preserved : goal.loop-index-preserved
loop-index-preserved c = λ l stand.
    let k = c.loop-index.index in
    let i = c.index-items-index.result in
    let s : Site = record { point = pos_in c.args.block k; item = i } in
    let at : StandsAt l c.args.plan.now (c.first-first.result + k) s =
    subst (λ (n : ℕ). StandsAt l c.args.plan.now (n + k) s) (sym c.first-first.ensures) (stand k i c.loop-index-test.true c.index-items-index.is) in
    block_turn (entries_at l) c.args.block c.args.items.now k i c.args.entries.now c.loop-index.entries c.push_item.new.entries c.loop-index-test.true
    c.index-items-index.is
    (c.loop-index.invariant l stand) (c.in_ok-push_item.ensures l s at refl refl)
