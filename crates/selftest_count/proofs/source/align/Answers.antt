use Rattle.std.proofs.Common.{◌≡◌, Bool, false, sym, subst}
use Rattle.std.specs.Prelude.{IsTrue}
use Rattle.std.proofs.lemmas.Result.{IfOk-weaker}
use Rattle.sem_interpreter.specs.declared.state.SourceStep.{SourceStep}
use Rattle.sem_interpreter.specs.Steps.{Steps, source_of}
use Rattle.selftest_count.specs.steps.Beside.{ArrivesSo, AlignsSo, MissesSo, MissesNextSo}
use Rattle.selftest_count.proofs.Sources.{aligns_here, aligns_after, misses_here, misses_after}
use Rattle.selftest_count.proofs.source.align.Goals as goal

pub returns-then-not-moved-clause-aligned : goal.returns-then-not-moved-clause-aligned
returns-then-not-moved-clause-aligned c =
    let src = source_of c.args.f.now.blocks c.args.subs.now in
    let old = c.args.state.now in let new = c.arrive.new.state in
    IfOk-weaker c.arrive.result (λ came. IsTrue came → ArrivesSo src c.args.target old new)
    (λ came. IsTrue came → AlignsSo src c.args.moved c.args.target old new)
    (λ came arrived is. subst (λ (b : Bool). AlignsSo src b c.args.target old new) (sym c.if-not-moved.true)
    (aligns_here src c.args.target old new (arrived is)))
    c.arrive.ensures.arrived

pub returns-then-not-moved-clause-misses : goal.returns-then-not-moved-clause-misses
returns-then-not-moved-clause-misses c =
    let src = source_of c.args.f.now.blocks c.args.subs.now in
    let old = c.args.state.now in
    IfOk-weaker c.arrive.result (λ came. came ≡ false → MissesSo src c.args.target old)
    (λ came. came ≡ false → MissesNextSo src c.args.moved c.args.target old)
    (λ came missed is. subst (λ (b : Bool). MissesNextSo src b c.args.target old) (sym c.if-not-moved.true)
    (misses_here src c.args.target old (missed is)))
    c.arrive.ensures.misses

pub returns-in-Went-clause-aligned : goal.returns-in-Went-clause-aligned
returns-in-Went-clause-aligned c =
    let src = source_of c.args.f.now.blocks c.args.subs.now in
    let old = c.args.state.now in let next = c.step.new.self in let new = c.arrive-in-Went.new.state in
    let went = subst (λ (r : SourceStep). Steps src _ r old next) c.in-Went.is c.in_ok-step.ensures.step in
    IfOk-weaker c.arrive-in-Went.result (λ came. IsTrue came → ArrivesSo src c.args.target next new)
    (λ came. IsTrue came → AlignsSo src c.args.moved c.args.target old new)
    (λ came arrived is. subst (λ (b : Bool). AlignsSo src b c.args.target old new) (sym c.if-not-moved.false)
    (aligns_after src c.args.target old next new went (arrived is)))
    c.arrive-in-Went.ensures.arrived

pub returns-in-Went-clause-misses : goal.returns-in-Went-clause-misses
returns-in-Went-clause-misses c =
    let src = source_of c.args.f.now.blocks c.args.subs.now in
    let old = c.args.state.now in let next = c.step.new.self in
    let went = subst (λ (r : SourceStep). Steps src _ r old next) c.in-Went.is c.in_ok-step.ensures.step in
    IfOk-weaker c.arrive-in-Went.result (λ came. came ≡ false → MissesSo src c.args.target next)
    (λ came. came ≡ false → MissesNextSo src c.args.moved c.args.target old)
    (λ came missed is. subst (λ (b : Bool). MissesNextSo src b c.args.target old) (sym c.if-not-moved.false)
    (misses_after src c.args.target old next went (missed is)))
    c.arrive-in-Went.ensures.misses
