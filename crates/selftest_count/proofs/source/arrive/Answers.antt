use Rattle.std.proofs.Common.{◌≡◌, arith, subst}
use Rattle.sem_interpreter.specs.declared.state.SourceStep.{SourceStep}
use Rattle.sem_interpreter.specs.Steps.{Steps, source_of}
use Rattle.selftest_count.specs.Apart.{MAX_SOURCE_STEPS}
use Rattle.selftest_count.proofs.Sources.{arrives, all_made, halts_there, goes_further, is_here, is_elsewhere, not_went}
use Rattle.selftest_count.proofs.source.arrive.Goals as goal

pub returns-then-eq-clause-arrived : goal.returns-then-eq-clause-arrived
returns-then-eq-clause-arrived c = λ t.
    arrives (source_of c.args.f.now.blocks c.args.subs.now) c.args.target c.steps.made c.args.state.now c.steps.state c.steps.invariant.way
    (is_here c.steps.state.pos c.position.result c.args.target c.eq.result c.position.ensures c.eq.ensures c.if-eq.true)

pub returns-in-Returned : goal.returns-in-Returned
returns-in-Returned c = record {
  arrived = λ t. absurd cc;
  misses = λ q. halts_there (source_of c.args.f.now.blocks c.args.subs.now) c.args.target c.steps.made c.args.state.now c.steps.state c.step.new.self
      c.in_ok-step.field-0 c.steps.invariant.way c.steps-test.true
      (is_elsewhere c.steps.state.pos c.position.result c.args.target c.eq.result c.position.ensures c.eq.ensures c.if-eq.false)
      (not_went c.in_ok-step.field-0 c.in-Returned.is) c.in_ok-step.ensures.step;
  at = c.in_ok-step.ensures.at;
}

pub steps-preserved : goal.steps-preserved
steps-preserved c = record {
  at = c.in_ok-step.ensures.at;
  few = let below = c.steps-test.true in omega (arith, below);
  way =
      let src = source_of c.args.f.now.blocks c.args.subs.now in
      goes_further src c.args.target c.steps.made c.args.state.now c.steps.state c.step.new.self c.steps.invariant.way
      (is_elsewhere c.steps.state.pos c.position.result c.args.target c.eq.result c.position.ensures c.eq.ensures c.if-eq.false)
      (subst (λ (r : SourceStep). Steps src _ r c.steps.state c.step.new.self) c.in-Went.is c.in_ok-step.ensures.step);
}

pub returns-clause-misses : goal.returns-clause-misses
returns-clause-misses c = λ q.
    (let few = c.steps.invariant.few in let all = c.steps-test.false in
    let made : c.steps.made ≡ MAX_SOURCE_STEPS = omega (arith, few, all) in
    all_made (source_of c.args.f.now.blocks c.args.subs.now) c.args.target c.steps.made c.args.state.now c.steps.state c.steps.invariant.way made)
