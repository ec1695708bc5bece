use Rattle.std.proofs.Common.{◌<◌, List, length, refl, sym, ap, subst, ◌∙◌}
use Rattle.std.specs.List.{All}
use Rattle.std.proofs.lemmas.List.Elements.{All-head}
use Rattle.rv64_instr.specs.Instruction.{Instruction}
use Rattle.rv64_instr.specs.Row.{row_of, implicit_uses}
use Rattle.rv64_instr.specs.declared.operand.Operand.{Operand}
use Rattle.mir_func.specs.SoundFrame.{IsPhysical}
use Rattle.sem_machine.specs.MachineStep.{call_of}
use Rattle.sim_machine.specs.steps.Arguments.{NamesCallee}
use Rattle.sim_machine.proofs.Calls.{form_at, first_is, not_empty, event_is}
use Rattle.sim_machine.proofs.hart.Hart.event.Goals as goal

pub target-requires : goal.target-requires
target-requires c =
    let f = form_at c.i.inside.op c.i.inside.operands c.args.i.now c.i.view_is c.i.invariant c.requires.call in
    let p = first_is c.i.inside.op c.i.inside.operands f c.in-Some.first.now c.in-Some.rest.now (sym c.as_slice.ensures ∙ c.in-Some.ensures.cases.0) in
    subst NamesCallee (sym p.0) (f.names (All-head IsPhysical f.first f.rest (subst (All IsPhysical) (ap (λ (x : Instruction). x.operands) (sym c.i.view_is)
    ∙ f.are) c.requires.physical)))

pub passed-requires : goal.passed-requires
passed-requires c =
    let f = form_at c.i.inside.op c.i.inside.operands c.args.i.now c.i.view_is c.i.invariant c.requires.call in
    let p = first_is c.i.inside.op c.i.inside.operands f c.in-Some.first.now c.in-Some.rest.now (sym c.as_slice.ensures ∙ c.in-Some.ensures.cases.0) in
    subst (λ (xs : List Operand). All (λ q. q < 32) (implicit_uses xs)) (sym p.1) f.low

pub unreachable-requires : goal.unreachable-requires
unreachable-requires c =
    let f = form_at c.i.inside.op c.i.inside.operands c.args.i.now c.i.view_is c.i.invariant c.requires.call in
    not_empty c.i.inside.op c.i.inside.operands f (ap length (sym c.as_slice.ensures) ∙ c.in-None.ensures.cases)

pub returns : goal.returns
returns c = λ s site h e.
    let f = form_at c.i.inside.op c.i.inside.operands c.args.i.now c.i.view_is c.i.invariant c.requires.call in
    let i : Instruction = record { op = c.i.inside.op; operands = c.i.inside.operands; volatile = c.i.inside.volatile } in
    event_is i f c.in-Some.first.now c.in-Some.rest.now c.in_ok-target-in-Some.target c.in_ok-args-in-Some.args _ c.args.self.now s site h
    (sym (sym c.as_slice.ensures ∙ c.in-Some.ensures.cases.0)) (λ k named. c.in_ok-target-in-Some.ensures s k h named) (c.in_ok-args-in-Some.ensures s h) refl
    (ap (λ (x : Instruction). call_of (row_of x)) c.i.view_is ∙ e)
