use Rattle.std.proofs.Common.{◌++◌, List, ap, ◌∙◌, arith}
use Rattle.pass_trait.specs.declared.loss.Loss.{Loss}
use Rattle.linear_scan.proofs.Scanned.{sizes_mid, few_items, low_numbers, low_slots, scanned}
use Rattle.linear_scan.proofs.scan.allocate.Goals as goal

pub allot-requires : goal.allot-requires
allot-requires c = let numbers = c.requires.numbers in omega (arith, numbers)

pub intervals_left-requires : goal.intervals_left-requires
intervals_left-requires c =
    let a = c.in_ok-losses.ensures.allotted c.args.subs.now in
    let sizes = sizes_mid c.args.reserve.now c.args.f.now c.args.subs.now c.allot.new.f c.in_ok-losses.losses a c.allotted_keeps_sizes.ensures
    c.allot.ensures.sound c.allot.ensures.forms in
    few_items c.args.reserve.now c.args.f.now c.args.subs.now c.allot.new.f c.in_ok-losses.losses a sizes
    (let numbers = c.requires.numbers in omega (arith, numbers))

pub settle_left-requires-clause-left : goal.settle_left-requires-clause-left
settle_left-requires-clause-left c = c.in_ok-intervals.ensures

pub settle_left-requires-clause-numbers : goal.settle_left-requires-clause-numbers
settle_left-requires-clause-numbers c =
    let a = c.in_ok-losses.ensures.allotted c.args.subs.now in
    let sizes = sizes_mid c.args.reserve.now c.args.f.now c.args.subs.now c.allot.new.f c.in_ok-losses.losses a c.allotted_keeps_sizes.ensures
    c.allot.ensures.sound c.allot.ensures.forms in
    low_numbers c.args.reserve.now c.args.f.now c.args.subs.now c.allot.new.f c.in_ok-losses.losses a sizes c.requires.numbers

pub settle_left-requires-clause-slots : goal.settle_left-requires-clause-slots
settle_left-requires-clause-slots c =
    let a = c.in_ok-losses.ensures.allotted c.args.subs.now in
    let sizes = sizes_mid c.args.reserve.now c.args.f.now c.args.subs.now c.allot.new.f c.in_ok-losses.losses a c.allotted_keeps_sizes.ensures
    c.allot.ensures.sound c.allot.ensures.forms in
    low_slots c.args.reserve.now c.args.f.now c.args.subs.now c.allot.new.f c.in_ok-losses.losses a sizes c.requires.slots

pub returns : goal.returns
returns c =
    let a = c.in_ok-losses.ensures.allotted c.args.subs.now in
    scanned c.args.reserve.now c.args.f.now c.args.subs.now c.allot.new.f c.in_ok-losses.losses a c.in_ok-intervals.intervals c.in_ok-intervals.ensures
    c.settle_left.new.f c.in_ok-scratch.scratch c.extend_from_slice.new.self c.in_ok-scratch.ensures
    (c.in_ok-extend_from_slice.ensures.ok ∙ ap (λ (ls : List Loss). c.in_ok-losses.losses ++ ls) c.as_slice.ensures)
