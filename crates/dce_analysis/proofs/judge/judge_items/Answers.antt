use Rattle.std.proofs.Common.{ℕ, List, sym, subst}
use Rattle.mir_func.specs.declared.item.Item.{Item}
use Rattle.mir_func.specs.Sound.{SlotsIn}
use Rattle.pass_liveness.specs.Sets.{has}
use Rattle.pass_liveness.proofs.Walking.{item_among}
use Rattle.dce_analysis.proofs.Walk.{Walking, walk_dead, walk_kept}
use Rattle.dce_analysis.proofs.judge.judge_items.Goals as goal
use Rattle.dce_analysis.proofs.judge.judge_items.Goals.{then-not-goes, else-not-goes}

pub loop-item-preserved : goal.loop-item-preserved
loop-item-preserved c =
    let slots : List ℕ = c.args.live.now.slots in
    let last = c.in-Some.ensures.cases.0 in
    let item : Item = c.in-Some.item.now in
    let grown = c.in_ok-push.ensures.items in
    let named = item_among (λ (i : Item). SlotsIn slots i.kind) c.args.items.now c.in-Some.rest.now c.loop-item.above.now item c.loop-item.invariant.below last
    c.loop-item.invariant.all c.requires in
    let W : List ℕ → Type 0 = λ set. Walking slots (has slots c.args.needed.now) c.args.items.now c.in-Some.rest.now set c.push.new.self.items in
    elim c.if-not-goes.branch [
      | then-not-goes w ↦ subst W (sym w.needed-is) (walk_kept c.loop-item.invariant c.in-Some.rest.now item last c.push.new.self.items c.is_dead-goes.result
          w.step_up.new.set c.is_dead-goes.ensures w.if-not-goes.true grown (w.step_up.ensures named))
      | else-not-goes w ↦ subst W (sym w.needed-is) (walk_dead c.loop-item.invariant c.in-Some.rest.now item last c.push.new.self.items c.is_dead-goes.result
          c.is_dead-goes.ensures w.if-not-goes.false grown)
    ]
