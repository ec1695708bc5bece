use Rattle.std.proofs.Common.{◌≡◌, inl, inr, ℕ, List, Bool, ap, ◌∙◌, sym, subst, arith}
use Rattle.rv64_instr.specs.declared.place.Place.{Place}
use Rattle.rv64_instr.specs.declared.place.Place.TheVariants.{Register}
use Rattle.mir_func.specs.declared.exit.Exit.{Exit}
use Rattle.mir_func.specs.declared.item.Item.{Item}
use Rattle.mir_func.specs.Sound.{SlotsIn}
use Rattle.pass_liveness.specs.Sets.{has}
use Rattle.pass_liveness.specs.Walk.{live_across, live_before}
use Rattle.pass_liveness.specs.Liveness.{has_at_start}
use Rattle.pass_liveness.proofs.Walking.{item_among}
use Rattle.scan_liveness.specs.Described.{is_in}
use Rattle.scan_liveness.proofs.Walked.{items_begin, items_go_on, same_places, still_settled}
use Rattle.scan_liveness.proofs.walk.push_items.Goals as goal

pub loop-item-init : goal.loop-item-init
loop-item-init c =
    items_begin (has_at_start c.args.numbers.now.slots c.args.numbers.now.blocks c.args.starts.now) c.args.numbers.now.slots c.args.next c.args.items.now
    c.live_from-set.result c.args.masks.now.items c.args.pending.now c.args.extents.now.items c.live_from-set.ensures

pub push_item-requires-clause-few : goal.push_item-requires-clause-few
push_item-requires-clause-few c = let long = c.loop-item.invariant.long in let few = c.requires.few in omega (arith, long, few)

pub push_item-requires-clause-up : goal.push_item-requires-clause-up
push_item-requires-clause-up c x =
    let slots : List ℕ = c.args.numbers.now.slots in
    let item : Item = c.in-Some.item.now in
    let w = c.loop-item.invariant in
    let named = item_among (λ (i : Item). SlotsIn slots i.kind) c.args.items.now c.in-Some.rest.now c.loop-item.above.now item w.below
    c.in-Some.ensures.cases.0 w.all c.requires.slots in
    c.step_up.ensures named x ∙ ap (λ (words : List ℕ). live_before item.kind (has slots words x) x) (sym c.copy-after.ensures)

pub push_item-requires-clause-quiet : goal.push_item-requires-clause-quiet
push_item-requires-clause-quiet c quiet r =
    let slots : List ℕ = c.args.numbers.now.slots in
    let S : ℕ → Place → Bool = has_at_start c.args.numbers.now.slots c.args.numbers.now.blocks c.args.starts.now in
    elim (c.is_quiet-same.ensures quiet) [
      | inl still ↦
          let both = c.is_still_quiet-still.ensures still in
          still_settled S slots c.loop-item.set c.step_across.new.set c.loop-item.pending c.exit-in-Some.result
          (c.exit-in-Some.ensures ∙ sym c.exit.ensures ∙ both.1) c.step_across.ensures
          (c.loop-item.invariant.settled both.0) r ∙ ap (λ (words : List ℕ). is_in slots words r) (sym c.copy-after.ensures)
      | inr same ↦ same_places slots c.loop-item.pending c.copy-after.result same (Register r)
    ]

pub loop-item-preserved : goal.loop-item-preserved
loop-item-preserved c =
    let slots : List ℕ = c.args.numbers.now.slots in
    let S : ℕ → Place → Bool = has_at_start c.args.numbers.now.slots c.args.numbers.now.blocks c.args.starts.now in
    let last = c.in-Some.ensures.cases.0 in
    let item : Item = c.in-Some.item.now in
    let w = c.loop-item.invariant in
    let named = item_among (λ (i : Item). SlotsIn slots i.kind) c.args.items.now c.in-Some.rest.now c.loop-item.above.now item w.below last w.all
    c.requires.slots in
    items_go_on w c.in-Some.rest.now item last c.copy-after.result c.step_up.new.set c.push_item.new.masks.items c.push_item.new.pending
    c.push_item.new.extents.items c.in_ok-quiet.quiet
    (λ (x : Place). ap (λ (words : List ℕ). has slots words x) c.copy-after.ensures ∙ (c.step_across.ensures x ∙
    ap (λ (e : Exit). live_across S e (has slots c.loop-item.set x) x) c.exit-in-Some.ensures))
    (λ (x : Place). c.step_up.ensures named x ∙ ap (λ (words : List ℕ). live_before item.kind (has slots words x) x) (sym c.copy-after.ensures))
    c.in_ok-quiet.ensures.quiet c.in_ok-quiet.ensures.long c.in_ok-quiet.ensures.described
