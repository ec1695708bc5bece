use Rattle.std.proofs.Common.{◌≡◌, ◌<◌, ◌+◌, ◌&&◌, ◌++◌, ◌∙◌, ℕ, List, Bool, false, Some, length, get_or, sym, subst, arith}
use Rattle.std.specs.Prelude.{slice_get, option_to_list}
use Rattle.mir_func.specs.declared.item.Item.{Item}
use Rattle.mir_func.specs.Exits.{exit_of}
use Rattle.mir_func.specs.Sound.{SlotsIn}
use Rattle.pass_liveness.specs.Sets.{has}
use Rattle.dce_stale.specs.dce_rule.Dead.{Places}
use Rattle.dce_stale.specs.Flow.{wrong_past, wrong_next, goes_on}
use Rattle.dce_stale.proofs.Steps.{get_item}
use Rattle.dce_sweep.specs.Left.{left_of, lost_of}
use Rattle.dce_sweep.proofs.Steps.{walk_begins, walk_on, left_all, lost_all}
use Rattle.dce_sweep.proofs.left.left_items.Goals as goal

pub loop-at-init : goal.loop-at-init
loop-at-init c = walk_begins c.args.items.now c.args.dead.now (has c.args.wrong.now.slots c.args.set.now) _ c.args.lost.now.items
    c.in_ok-left.ensures.items

pub loop-at-preserved : goal.loop-at-preserved
loop-at-preserved c =
    let slots : List ℕ = c.args.wrong.now.slots in
    let items : List Item = c.args.items.now in
    let dead : List Bool = c.args.dead.now in
    let at : ℕ = c.loop-at.at in
    let i : Item = c.index-items-at.result in
    let here : Places = has slots c.loop-at.set in
    let past : Places = has slots c.step_down.new.set in
    let lt : at < length items = omega arith in
    let got : slice_get items at ≡ Some i = get_item items at i lt c.index-items-at.is in
    let there : i ≡ get_or items at i = c.index-items-at.is in
    let named : SlotsIn slots (get_or items at i).kind = c.requires at i lt in
    let goes : c.verdict-goes.result ≡ get_or dead at false = c.verdict-goes.ensures in
    let is : past ≡ wrong_past i.kind (get_or dead at false) here =
    (λ z x. c.step_down.ensures (subst (λ (y : Item). SlotsIn slots y.kind) (sym there) named) x z) ∙ (λ z. wrong_past i.kind (goes z) here) in
    let out : c.exit.result ≡ exit_of i.kind = c.exit.ensures in
    let next : has slots c.go_on.new.set ≡ wrong_next i.kind (get_or dead at false) here =
    (λ z x. c.go_on.ensures x z) ∙ (λ z x. goes_on (out z) && is z x) in
    walk_on items dead (has slots c.args.set.now) c.loop-at.invariant i got (has slots c.go_on.new.set) c.keep.new.left.items c.keep.new.lost.items next
    (c.in_ok-keep.ensures.left ∙ (λ z. c.loop-at.left.items ++ left_of here (goes z) i))
    (c.in_ok-keep.ensures.lost ∙ (λ z. c.loop-at.lost.items ++ option_to_list (lost_of here (goes z) i.kind i.origin)))

pub returns-clause-left : goal.returns-clause-left
returns-clause-left c = left_all c.args.items.now c.args.dead.now (has c.args.wrong.now.slots c.args.set.now) c.loop-at.invariant (omega arith)

pub returns-clause-lost : goal.returns-clause-lost
returns-clause-lost c = lost_all c.args.items.now c.args.dead.now (has c.args.wrong.now.slots c.args.set.now) c.loop-at.invariant (omega arith)
