use Rattle.std.proofs.Common.{arith, ◌≡◌, ◌<◌, ◌^◌, length, ◌∙◌, sym, ap}
use Rattle.emit_code.specs.steps.Spans.{sums_from, grown_from, begun}
use Rattle.emit_code.proofs.Growing.{same_length, more_rounds, steady_round}
use Rattle.emit_code.proofs.branch_relaxation.settle.Goals as goal

pub loop-alloc-init : goal.loop-alloc-init
loop-alloc-init c = record { sums = c.in_ok-sums.ensures ∙ ap (sums_from 0) c.as_slice.ensures; few = c.requires; rounds = begun }

pub sums-requires-in-loop-alloc : goal.sums-requires-in-loop-alloc
sums-requires-in-loop-alloc c =
    let before : c.spans.inside.items.items ≡ c.loop-alloc.spans = c.spans.view_is in
    let few : length c.loop-alloc.spans < 2 ^ 18 = c.loop-alloc.invariant.few in
    omega (
      arith,
      few,
      ap length before,
      ap length c.as_slice-in-loop-alloc-2.ensures,
      ap length c.grow.ensures.round,
      same_length c.as_slice-in-loop-alloc.result.now 0 c.spans.inside.items.items,
    )

pub loop-alloc-preserved : goal.loop-alloc-preserved
loop-alloc-preserved c =
    let before : c.spans.inside.items.items ≡ c.loop-alloc.spans = c.spans.view_is in
    let few : length c.loop-alloc.spans < 2 ^ 18 = c.loop-alloc.invariant.few in
    let made : c.grow.new.spans.items ≡ grown_from c.loop-alloc.sums 0 c.loop-alloc.spans =
    c.grow.ensures.round ∙ (λ i. grown_from (c.as_slice-in-loop-alloc.ensures i) 0 (before i)) in
    record {
      sums = c.in_ok-sums-2.ensures ∙ ap (sums_from 0) c.as_slice-in-loop-alloc-2.ensures;
      few = omega (arith, few, ap length made, same_length c.loop-alloc.sums 0 c.loop-alloc.spans);
      rounds = more_rounds c.args.spans.now c.loop-alloc.spans c.grow.new.spans.items c.loop-alloc.sums c.loop-alloc.invariant.rounds
          c.loop-alloc.invariant.sums made;
    }

pub returns-clause-settles : goal.returns-clause-settles
returns-clause-settles c =
    let before : c.spans.inside.items.items ≡ c.loop-alloc.spans = c.spans.view_is in
    let made : c.grow.new.spans.items ≡ grown_from c.loop-alloc.sums 0 c.loop-alloc.spans =
    c.grow.ensures.round ∙ (λ i. grown_from (c.as_slice-in-loop-alloc.ensures i) 0 (before i)) in
    let same : c.grow.new.spans.items ≡ c.loop-alloc.spans = c.grow.ensures.steady c.loop-alloc-test.false ∙ before in
    steady_round c.args.spans.now c.loop-alloc.spans c.grow.new.spans.items c.loop-alloc.sums c.loop-alloc.invariant.rounds c.loop-alloc.invariant.sums made
    same

pub returns-clause-sums : goal.returns-clause-sums
returns-clause-sums c =
    let before : c.spans.inside.items.items ≡ c.loop-alloc.spans = c.spans.view_is in
    c.loop-alloc.invariant.sums ∙ ap (sums_from 0) (sym (c.grow.ensures.steady c.loop-alloc-test.false ∙ before))
