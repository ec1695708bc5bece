use Rattle.std.proofs.Common.{Option, IfSome, IfNone, ap, ◌∙◌, subst}
use Rattle.emit_code.specs.declared.code.EncodedInstruction.{EncodedInstruction}
use Rattle.sim_machine.specs.declared.ending.Stepped.{Stepped}
use Rattle.sim_machine.specs.declared.ending.Stepped.TheVariants.{Stopped}
use Rattle.sim_machine.specs.declared.ending.Stop.{Stop}
use Rattle.sim_machine.specs.Running.{StepsOn}
use Rattle.sem_interpreter.specs.Steps.{source_of}
use Rattle.selftest_count.specs.Counts.{read_at}
use Rattle.selftest_count.specs.steps.Beside.{Meets, MeetsNot}
use Rattle.selftest_count.proofs.Turns.{meets_not, goes_on, returns_there, leaves_there, stops_there}
use Rattle.selftest_count.proofs.turn.make_turn.Goals as goal

pub returns-in-None-clause-leads : goal.returns-in-None-clause-leads
returns-in-None-clause-leads c =
    let src = source_of c.args.f.now.blocks c.args.subs.now in
    meets_not src c.args.machine.now.code c.args.lists.now c.args.parts.now c.args.counts.now c.args.machine.now.hart c.args.state.now c.args.moved.now
    (subst (λ (o : Option EncodedInstruction). IfNone o
    (MeetsNot src c.args.machine.now.code c.args.moved.now c.args.machine.now.hart c.args.state.now)) c.in-None.is
    c.in_ok-meet.ensures.apart)

pub returns-in-Went-clause-leads : goal.returns-in-Went-clause-leads
returns-in-Went-clause-leads c =
    let src = source_of c.args.f.now.blocks c.args.subs.now in
    let code = c.args.machine.now.code in let h = c.args.machine.now.hart in let h' = c.step.new.self.hart in
    goes_on src code c.args.lists.now c.args.parts.now c.args.counts.now c.count.new.self h h' c.args.state.now c.meet.new.state c.args.moved.now
    c.is_kept.result c.in-Some.entry c.reads.result c.known.result
    (subst (λ (o : Option EncodedInstruction). IfSome o
    (Meets src code c.args.moved.now h c.args.state.now c.meet.new.state)) c.in-Some.is c.in_ok-meet.ensures.meets)
    (c.reads.ensures.is ∙ ap (read_at c.args.lists.now) c.counter.ensures) c.known.ensures c.count.ensures.counted c.is_kept.ensures
    (subst (λ (r : Stepped). StepsOn code r h h') c.in-Went.is c.in_ok-step-in-Some.ensures.step)

pub returns-in-Stopped-Ended-clause-leads : goal.returns-in-Stopped-Ended-clause-leads
returns-in-Stopped-Ended-clause-leads c =
    let src = source_of c.args.f.now.blocks c.args.subs.now in
    let code = c.args.machine.now.code in let h = c.args.machine.now.hart in let h' = c.step.new.self.hart in
    returns_there src code c.args.lists.now c.args.parts.now c.args.counts.now c.count.new.self h h' c.args.state.now c.meet.new.state c.args.moved.now
    c.is_kept.result c.in-Some.entry c.reads.result c.known.result
    (subst (λ (o : Option EncodedInstruction). IfSome o
    (Meets src code c.args.moved.now h c.args.state.now c.meet.new.state)) c.in-Some.is c.in_ok-meet.ensures.meets)
    (c.reads.ensures.is ∙ ap (read_at c.args.lists.now) c.counter.ensures) c.known.ensures c.count.ensures.counted c.is_kept.ensures
    c.in-Stopped-Ended.field-0-0
    (subst (λ (stop : Stop). StepsOn code (Stopped stop) h h') c.in-Stopped-Ended.field-0-is
    (subst (λ (r : Stepped). StepsOn code r h h') c.in-Stopped-Ended.is c.in_ok-step-in-Some.ensures.step))

pub returns-in-Stopped-Left-clause-leads : goal.returns-in-Stopped-Left-clause-leads
returns-in-Stopped-Left-clause-leads c =
    let src = source_of c.args.f.now.blocks c.args.subs.now in
    let code = c.args.machine.now.code in let h = c.args.machine.now.hart in let h' = c.step.new.self.hart in
    leaves_there src code c.args.lists.now c.args.parts.now c.args.counts.now c.count.new.self h h' c.args.state.now c.meet.new.state c.args.moved.now
    c.is_kept.result c.in-Some.entry c.reads.result c.known.result
    (subst (λ (o : Option EncodedInstruction). IfSome o
    (Meets src code c.args.moved.now h c.args.state.now c.meet.new.state)) c.in-Some.is c.in_ok-meet.ensures.meets)
    (c.reads.ensures.is ∙ ap (read_at c.args.lists.now) c.counter.ensures) c.known.ensures c.count.ensures.counted c.is_kept.ensures
    (subst (λ (stop : Stop). StepsOn code (Stopped stop) h h') c.in-Stopped-Left.field-0-is
    (subst (λ (r : Stepped). StepsOn code r h h') c.in-Stopped-Left.is c.in_ok-step-in-Some.ensures.step))

pub returns-in-Stopped-BadWord-clause-leads : goal.returns-in-Stopped-BadWord-clause-leads
returns-in-Stopped-BadWord-clause-leads c =
    let src = source_of c.args.f.now.blocks c.args.subs.now in
    let code = c.args.machine.now.code in let h = c.args.machine.now.hart in let h' = c.step.new.self.hart in
    stops_there src code c.args.lists.now c.args.parts.now c.args.counts.now c.count.new.self h h' c.args.state.now c.meet.new.state c.args.moved.now
    c.is_kept.result c.in-Some.entry c.reads.result c.known.result
    (subst (λ (o : Option EncodedInstruction). IfSome o
    (Meets src code c.args.moved.now h c.args.state.now c.meet.new.state)) c.in-Some.is c.in_ok-meet.ensures.meets)
    (c.reads.ensures.is ∙ ap (read_at c.args.lists.now) c.counter.ensures) c.known.ensures c.count.ensures.counted c.is_kept.ensures
    c.in-Stopped-BadWord.field-0-0
    (subst (λ (stop : Stop). StepsOn code (Stopped stop) h h') c.in-Stopped-BadWord.field-0-is
    (subst (λ (r : Stepped). StepsOn code r h h') c.in-Stopped-BadWord.is c.in_ok-step-in-Some.ensures.step))
