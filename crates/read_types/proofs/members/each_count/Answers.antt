use Rattle.std.proofs.Common.{ℕ, ◌+◌, drop, List, Option, ap, ◌∙◌}
use Rattle.read_types.specs.Parts.{each_count}
use Rattle.read_types.proofs.Counts.{joined, joined-nil, no_count, next_count, all_counts}
use Rattle.read_types.proofs.members.each_count.Goals as goal

pub loop-element-init : goal.loop-element-init
loop-element-init c = rw c.new-counts.ensures (joined-nil (each_count c.args.m.now c.args.elements.now))

pub returns-in_default : goal.returns-in_default
returns-in_default c =
    no_count c.args.m.now c.loop-element.counts c.args.elements.now c.loop-element.element-index c.element-item.result _
    c.loop-element-test.true c.element-item.is c.loop-element.invariant c.in_default.ensures

pub loop-element-preserved : goal.loop-element-preserved
loop-element-preserved c =
    ap (λ (cs : List (Option ℕ)). joined cs (each_count c.args.m.now (drop (c.loop-element.element-index + 1) c.args.elements.now))) c.in_ok-push.ensures.ok
    ∙ next_count c.args.m.now c.loop-element.counts c.args.elements.now c.loop-element.element-index c.element-item.result _
    c.loop-element-test.true c.element-item.is c.loop-element.invariant c.in-Some.count c.in-Some.ensures

pub returns : goal.returns
returns c =
    all_counts c.args.m.now c.loop-element.counts c.args.elements.now c.loop-element.element-index c.loop-element-test.false c.loop-element.invariant
