use Rattle.std.proofs.Common.{arith, ◌≡◌, ◌≤◌, ◌<◌, length, set, Vec, Global, ◌∙◌, ap}
use Rattle.emit_code.specs.declared.span.Span.{Span}
use Rattle.emit_code.specs.declared.span.Span.TheVariants.{Long}
use Rattle.emit_code.proofs.Growing.{made_all, made_at, made_stays}
use Rattle.emit_code.proofs.branch_relaxation.grow.Goals as goal
use Rattle.emit_code.proofs.branch_relaxation.grow.Goals.{in-Some, in_default}

pub loop-index-preserved : goal.loop-index-preserved
loop-index-preserved c =
    let lt : c.loop-index.index < length c.args.spans.now.items = omega arith in
    elim c.match-far.branch [
      | in-Some w ↦
          let items : c.match-far.spans.items ≡ set c.loop-index.spans.items c.loop-index.index (Long w.in-Some.target) =
          ap (λ (v : Vec Span Global). v.items) w.spans-is in
          rw w.found-is (made_at c.args.sums.now c.args.spans.now.items c.loop-index.spans.items c.match-far.spans.items c.loop-index.index c.loop-index.found
          c.index.result.now w.in-Some.target c.loop-index.invariant lt c.index.ensures w.in-Some.ensures.grows items)
      | in_default w ↦
          let items : c.match-far.spans.items ≡ c.loop-index.spans.items = ap (λ (v : Vec Span Global). v.items) w.spans-is in
          made_stays c.args.sums.now c.args.spans.now.items c.loop-index.spans.items c.match-far.spans.items c.loop-index.index c.loop-index.found
          c.match-far.found
          c.index.result.now c.loop-index.invariant lt c.index.ensures w.in_default.ensures.grows items w.found-is
    ]

pub returns-clause-round : goal.returns-clause-round
returns-clause-round c =
    let past : length c.args.spans.now.items ≤ c.loop-index.index = omega arith in
    c.loop-index.invariant.made ∙ made_all c.args.sums.now c.args.spans.now.items c.loop-index.index past

pub returns-clause-steady : goal.returns-clause-steady
returns-clause-steady c = c.loop-index.invariant.steady

pub returns-clause-fewer : goal.returns-clause-fewer
returns-clause-fewer c = c.loop-index.invariant.fewer
