use Rattle.std.proofs.Common.{Some, refl, sym, ap, ◌∙◌, length, arith}
use Rattle.inline_instances.proofs.Shifts.{shift_begins, shift_ends, rank_less, rank_less_left, none_below, some_below, moved_out, moved_in, parent_of}
use Rattle.inline_instances.proofs.ranges.OpenRanges.shift.Goals as goal

pub indices-init : goal.indices-init
indices-init c = record {
  starts = c.requires.starts;
  ranges = c.requires.ranges;
  left_in = c.requires.left;
  entered_in = c.requires.entered;
  shifting = λ ks js is also.
      shift_begins c.args.instances.now ks js c.args.address c.args.self.now c.args.left c.args.entered is also;
}

pub returns-in-None-None : goal.returns-in-None-None
returns-in-None-None c = λ ks js is also.
    let m = c.indices.invariant in
    shift_ends c.args.instances.now ks js c.args.address c.args.self.now c.indices.self c.indices.inside c.indices.reached (m.shifting ks js is also)
    (c.in-None-None.is-0 ∙ sym c.in-None-None.is-1) (m.ranges ∙ sym c.requires.ranges) (m.starts ∙ sym c.requires.starts)

pub returns-then-old-new : goal.returns-then-old-new
returns-then-old-new c = λ ks js is also.
    let m = c.indices.invariant in
    shift_ends c.args.instances.now ks js c.args.address c.args.self.now c.indices.self c.indices.inside c.indices.reached (m.shifting ks js is also)
    (c.in-Some-Some.is-0 ∙ ap Some c.if-old-new.true ∙ sym c.in-Some-Some.is-1) (m.ranges ∙ sym c.requires.ranges) (m.starts ∙ sym c.requires.starts)

pub indices-preserved-in-None-Some : goal.indices-preserved-in-None-Some
indices-preserved-in-None-Some c =
    moved_in c.args.instances.now c.requires.earlier c.args.left c.args.entered c.args.address c.args.self.now c.indices.self c.begin_range.new.self
    c.indices.inside c.indices.reached c.in-None-Some.new c.index-instances-new.result c.indices.invariant c.in-None-Some.is-1
    (none_below c.indices.inside c.in-None-Some.new c.in-None-Some.is-0) c.begin_range.ensures

pub indices-preserved-in-Some-None : goal.indices-preserved-in-Some-None
indices-preserved-in-Some-None c =
    moved_out c.args.instances.now c.requires.earlier c.args.left c.args.entered c.args.address c.args.self.now c.indices.self c.end_range.new.self
    c.indices.inside c.indices.reached c.in-Some-None.old c.index-instances-old.result c.indices.invariant c.in-Some-None.is-0
    (none_below c.indices.reached c.in-Some-None.old c.in-Some-None.is-1) c.in_ok-end_range-in-Some-None.ensures

pub indices-preserved-then-old-new-2 : goal.indices-preserved-then-old-new-2
indices-preserved-then-old-new-2 c =
    moved_out c.args.instances.now c.requires.earlier c.args.left c.args.entered c.args.address c.args.self.now c.indices.self
    c.end_range-then-old-new-2.new.self
    c.indices.inside c.indices.reached c.in-Some-Some.old c.index-instances-old-then-old-new-2.result c.indices.invariant c.in-Some-Some.is-0
    (some_below c.indices.reached c.in-Some-Some.new c.in-Some-Some.old c.in-Some-Some.is-1 c.if-old-new-2.true) c.in_ok-end_range-in-Some-Some.ensures

pub indices-preserved : goal.indices-preserved
indices-preserved c =
    moved_in c.args.instances.now c.requires.earlier c.args.left c.args.entered c.args.address c.args.self.now c.indices.self
    c.begin_range-else-old-new-2.new.self
    c.indices.inside c.indices.reached c.in-Some-Some.new c.index-instances-new-else-old-new-2.result c.indices.invariant c.in-Some-Some.is-1
    (some_below c.indices.inside c.in-Some-Some.old c.in-Some-Some.new c.in-Some-Some.is-0 (omega (arith, c.if-old-new.false, c.if-old-new-2.false)))
    c.begin_range-else-old-new-2.ensures

pub indices-smaller-in-None-Some : goal.indices-smaller-in-None-Some
indices-smaller-in-None-Some c =
    let m = c.indices.invariant in
    rank_less c.indices.inside c.indices.reached _ c.in-None-Some.new c.in-None-Some.is-1
    (parent_of c.args.instances.now c.requires.earlier c.in-None-Some.new c.index-instances-new.result _ c.in-None-Some.is-1 m.entered_in)

pub indices-smaller-in-Some-None : goal.indices-smaller-in-Some-None
indices-smaller-in-Some-None c =
    let m = c.indices.invariant in
    rank_less_left c.indices.inside c.indices.reached _ c.in-Some-None.old c.in-Some-None.is-0
    (parent_of c.args.instances.now c.requires.earlier c.in-Some-None.old c.index-instances-old.result _ c.in-Some-None.is-0 m.left_in)

pub indices-smaller-then-old-new-2 : goal.indices-smaller-then-old-new-2
indices-smaller-then-old-new-2 c =
    let m = c.indices.invariant in
    rank_less_left c.indices.inside c.indices.reached _ c.in-Some-Some.old c.in-Some-Some.is-0
    (parent_of c.args.instances.now c.requires.earlier c.in-Some-Some.old c.index-instances-old-then-old-new-2.result _ c.in-Some-Some.is-0 m.left_in)

pub indices-smaller : goal.indices-smaller
indices-smaller c =
    let m = c.indices.invariant in
    rank_less c.indices.inside c.indices.reached _ c.in-Some-Some.new c.in-Some-Some.is-1
    (parent_of c.args.instances.now c.requires.earlier c.in-Some-Some.new c.index-instances-new-else-old-new-2.result _ c.in-Some-Some.is-1 m.entered_in)
