use Rattle.std.proofs.Common.{◌≡◌, ◌++◌, List, ap, ◌∙◌, arith}
use Rattle.pass_trait.specs.declared.loss.Loss.{Loss}
use Rattle.pass_manager.proofs.Row.{shown_then}
use Rattle.pass_manager.proofs.Sharing.{shared_numbers, shared_slots, behind_numbers, behind_slots, sharing_grows, sharing_follows, sharing_told}
use Rattle.pass_manager.proofs.exposed.run_sharing.Goals as goal

pub share-requires-clause-numbers : goal.share-requires-clause-numbers
share-requires-clause-numbers c = let room = c.requires.numbers in omega (arith, room)

pub share-requires-clause-slots : goal.share-requires-clause-slots
share-requires-clause-slots c = let room = c.requires.slots in omega (arith, room)

pub run_passes-requires-clause-numbers : goal.run_passes-requires-clause-numbers
run_passes-requires-clause-numbers c =
    shared_numbers c.args.passes.now c.args.f.now c.args.subs.now c.share.new.f c.share.new.subs c.in_ok-losses.ensures.sizes c.requires.numbers

pub run_passes-requires-clause-slots : goal.run_passes-requires-clause-slots
run_passes-requires-clause-slots c =
    shared_slots c.args.passes.now c.args.f.now c.args.subs.now c.share.new.f c.share.new.subs c.in_ok-losses.ensures.sizes c.requires.slots

pub share-requires-2-clause-numbers : goal.share-requires-2-clause-numbers
share-requires-2-clause-numbers c =
    behind_numbers c.args.passes.now c.args.f.now c.args.subs.now c.share.new.f c.share.new.subs c.in_ok-losses.ensures.sizes c.run_passes.new.f
    c.run_passes.new.subs c.in_ok-later.ensures.growth c.requires.numbers

pub share-requires-2-clause-slots : goal.share-requires-2-clause-slots
share-requires-2-clause-slots c =
    behind_slots c.args.passes.now c.args.f.now c.args.subs.now c.share.new.f c.share.new.subs c.in_ok-losses.ensures.sizes c.run_passes.new.f
    c.run_passes.new.subs c.in_ok-later.ensures.growth c.requires.slots

pub returns-clause-follows : goal.returns-clause-follows
returns-clause-follows c = λ fit.
    sharing_follows c.args.passes.now c.args.f.now c.args.subs.now c.share.new.f c.share.new.subs c.in_ok-losses.ensures.sizes c.run_passes.new.f
    c.run_passes.new.subs c.in_ok-later.ensures.growth c.share-2.new.f c.share-2.new.subs c.in_ok-losses.ensures.follows
    (c.in_ok-later.ensures.follows fit) c.in_ok-last.ensures.follows

pub returns-clause-told : goal.returns-clause-told
returns-clause-told c =
    let before : c.extend_from_slice.new.self ≡ c.in_ok-losses.losses ++ c.in_ok-later.later =
    c.in_ok-extend_from_slice.ensures.ok ∙ ap (λ (l : List Loss). c.in_ok-losses.losses ++ l) c.as_slice.ensures in
    let whole : c.extend_from_slice-2.new.self ≡ (c.in_ok-losses.losses ++ c.in_ok-later.later) ++ c.in_ok-last.last =
    c.in_ok-extend_from_slice-2.ensures.ok ∙ ap (λ (l : List Loss). c.extend_from_slice.new.self ++ l) c.as_slice-2.ensures
    ∙ ap (λ (l : List Loss). l ++ c.in_ok-last.last) before in
    sharing_told c.args.passes.now c.args.f.now c.args.subs.now c.share.new.f c.share.new.subs c.in_ok-losses.ensures.sizes c.run_passes.new.f
    c.run_passes.new.subs c.in_ok-later.ensures.growth c.share-2.new.f c.share-2.new.subs c.args.reserve.now c.in_ok-losses.losses c.in_ok-later.later
    c.in_ok-last.last c.extend_from_slice-2.new.self whole c.in_ok-losses.ensures.told c.in_ok-later.ensures.told c.in_ok-last.ensures.told

pub returns-clause-growth : goal.returns-clause-growth
returns-clause-growth c =
    sharing_grows c.args.passes.now c.args.f.now c.args.subs.now c.share.new.f c.share.new.subs c.in_ok-losses.ensures.sizes c.run_passes.new.f
    c.run_passes.new.subs c.in_ok-later.ensures.growth c.share-2.new.f c.share-2.new.subs c.in_ok-last.ensures.sizes

pub returns-clause-shown : goal.returns-clause-shown
returns-clause-shown c =
    shown_then c.args.f.now c.share.new.f c.share-2.new.f c.in_ok-losses.ensures.shown
    (shown_then c.share.new.f c.run_passes.new.f c.share-2.new.f c.in_ok-later.ensures.shown c.in_ok-last.ensures.shown)
