use Rattle.std.proofs.Common.{ℕ, List, ◌++◌, [], ◌∷◌, Option, ap, ◌∙◌, refl, arith}
use Rattle.mir_func.specs.declared.item.Item.{Item}
use Rattle.pass_liveness.specs.Sets.{has}
use Rattle.scan_stale.specs.scan_choice.Given.{given_by}
use Rattle.scan_debug.specs.scan_rule.Rewrite.{kind_now}
use Rattle.scan_allot.specs.Silent.{is_silent}
use Rattle.scan_allot.proofs.Walked.{along_begins, along_goes_on, along_made, along_lost}
use Rattle.scan_allot.proofs.items.items_now.Goals as goal

pub loop-at-init : goal.loop-at-init
loop-at-init c = along_begins c.args.f.now (given_by c.args.given.now) c.args._block c.args.items.now (has c.args.stale.now.slots c.args.set.now)
    (has c.args.stale.now.slots c.args.set.now) c.new-made.result c.args.lost.now.items refl c.new-made.ensures

pub loop-at-preserved : goal.loop-at-preserved
loop-at-preserved c =
    let i : Item = c.index-items-at.result in
    let made_by : List (Option ℕ) → Item = λ table. record {
      kind = kind_now (given_by table) (is_silent c.args.f.now (has c.args.stale.now.slots c.loop-at.set)) i.kind;
      origin = i.origin;
      loc = i.loc;
    } in
    along_goes_on c.args.f.now (given_by c.args.given.now) c.args._block c.args.items.now (has c.args.stale.now.slots c.args.set.now) c.loop-at.invariant
    c.index-items-at.result (omega arith) c.index-items-at.is (has c.args.stale.now.slots c.step_down.new.set) c.push.new.self c.push_lost.new.lost.items
    (λ t x. c.step_down.ensures x t) (c.in_ok-push.ensures.ok ∙ ap (λ i. c.loop-at.made ++ i ∷ []) (c.in_ok-item_now.ensures ∙ ap made_by c.as_slice.ensures))
    c.in_ok-push_lost.ensures

pub returns-clause-items : goal.returns-clause-items
returns-clause-items c =
    along_made c.args.f.now (given_by c.args.given.now) c.args._block c.args.items.now (has c.args.stale.now.slots c.args.set.now)
    c.loop-at.invariant (omega arith)

pub returns-clause-lost : goal.returns-clause-lost
returns-clause-lost c =
    along_lost c.args.f.now (given_by c.args.given.now) c.args._block c.args.items.now (has c.args.stale.now.slots c.args.set.now)
    c.loop-at.invariant (omega arith)
