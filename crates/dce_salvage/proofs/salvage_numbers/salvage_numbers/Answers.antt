use Rattle.std.proofs.Common.{◌-◌, length, sym, ◌∙◌, arith}
use Rattle.pass_salvage.specs.SalvageAction.{going_from}
use Rattle.dce_salvage.specs.SalvageNumbers.{SoFar}
use Rattle.dce_salvage.proofs.Down.{none_down}
use Rattle.dce_salvage.proofs.Moved.{moving_begins, moving_on, moving_ends}
use Rattle.dce_salvage.proofs.salvage_numbers.salvage_numbers.Goals as goal

pub loop-at-init : goal.loop-at-init
loop-at-init c =
    let first : SoFar = record { items = c.args.items.now.items; subs = c.args.subs.now; fresh = c.args.fresh.now; lost = c.args.lost.now.items } in
    let n = c.len-at.ensures in
    let ok = c.args.items.now.ok.0 in
    moving_begins (going_from 0 c.args.dead.now) c.args.dead.now first c.len-at.result c.in_ok-done.done.items (omega (arith, n, ok))
    c.in_ok-done.ensures.items

pub salvage_if-requires : goal.salvage_if-requires
salvage_if-requires c =
    let t = c.loop-at-test.true in
    let here = c.loop-at.invariant.here in
    let counted = c.loop-at.invariant.counted in
    let few = c.requires.fresh in
    record { at = omega (arith, t, here); fresh = omega (arith, t, counted, few) }

pub move_from-requires : goal.move_from-requires
move_from-requires c =
    let t = c.loop-at-test.true in
    let here = c.loop-at.invariant.here in
    let longer = c.in_ok-salvage_if.ensures.longer in
    omega (arith, t, here, longer)

pub loop-at-preserved : goal.loop-at-preserved
loop-at-preserved c =
    let first : SoFar = record { items = c.args.items.now.items; subs = c.args.subs.now; fresh = c.args.fresh.now; lost = c.args.lost.now.items } in
    let a : SoFar = record { items = c.loop-at.items.items; subs = c.loop-at.subs; fresh = c.loop-at.fresh; lost = c.loop-at.lost.items } in
    let b : SoFar =
    record {
      items = c.salvage_if.new.items.items;
      subs = c.salvage_if.new.subs;
      fresh = c.salvage_if.new.fresh;
      lost = c.salvage_if.new.lost.items;
    } in
    let t = c.loop-at-test.true in
    let asked = c.in_ok-salvage_if.ensures in
    let moved = c.in_ok-move_from.ensures in
    moving_on (going_from 0 c.args.dead.now) c.args.dead.now first c.loop-at.at (c.loop-at.at - 1) a c.loop-at.done.items (omega (arith, t))
    c.loop-at.invariant b c.verdict-goes.result c.verdict-goes.ensures asked.off asked.counted c.move_from.new.items.items
    c.move_from.new.done.items moved.long moved.all

pub returns-then-not-some_dead-clause-off : goal.returns-then-not-some_dead-clause-off
returns-then-not-some_dead-clause-off c =
    let first : SoFar = record { items = c.args.items.now.items; subs = c.args.subs.now; fresh = c.args.fresh.now; lost = c.args.lost.now.items } in
    none_down (going_from 0 c.args.dead.now) c.args.dead.now (length c.args.items.now.items) first (sym c.some_dead.ensures ∙ c.if-not-some_dead.true)

pub returns-clause-off : goal.returns-clause-off
returns-clause-off c =
    let first : SoFar = record { items = c.args.items.now.items; subs = c.args.subs.now; fresh = c.args.fresh.now; lost = c.args.lost.now.items } in
    let a : SoFar = record { items = c.loop-at.items.items; subs = c.loop-at.subs; fresh = c.loop-at.fresh; lost = c.loop-at.lost.items } in
    let t = c.loop-at-test.false in
    (λ i. record { items = c.reversed.ensures i; subs = c.loop-at.subs; fresh = c.loop-at.fresh; lost = c.loop-at.lost.items }) ∙
    moving_ends (going_from 0 c.args.dead.now) c.args.dead.now first c.loop-at.at a c.loop-at.done.items (omega (arith, t)) c.loop-at.invariant

pub returns-clause-counted : goal.returns-clause-counted
returns-clause-counted c =
    let counted = c.loop-at.invariant.counted in
    omega (arith, counted)
