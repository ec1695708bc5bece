use Rattle.std.proofs.Common.{ap, ◌∙◌}
use Rattle.std.specs.Option.{option_copied}
use Rattle.rv64_instr.specs.Instruction.{Instruction}
use Rattle.sem_interpreter.proofs.Stepping.{code_falls, code_goes}
use Rattle.sem_interpreter.proofs.state.SourceState.do_numbered.Goals as goal

pub returns-in_ok-number-in-Falls-clause-ok : goal.returns-in_ok-number-in-Falls-clause-ok
returns-in_ok-number-in-Falls-clause-ok c = λ subs. rw (← c.self.view_is)
    (code_falls subs c.args.i.now c.args.k (option_copied c.args.answer) _ c.act.new.self c.reserve.new.self.entries
    c.number.new.pairs.entries c.is_call-call.result
    c.as_slice-operands.result.now c.in_ok-act.field-0
    (c.as_slice-operands.ensures ∙ ap (λ (x : Instruction). x.operands) c.i.view_is) c.is_call-call.ensures
    c.in_ok-reserve.ensures.entries
    c.in-Falls.is c.in_ok-act.ensures.ok c.number.ensures.given)

pub returns-in_ok-number-in-Goes-clause-ok : goal.returns-in_ok-number-in-Goes-clause-ok
returns-in_ok-number-in-Goes-clause-ok c = λ subs. rw (← c.self.view_is)
    (code_goes subs c.args.i.now c.args.k (option_copied c.args.answer) _ c.act.new.self c.reserve.new.self.entries
    c.number-in-Goes.new.pairs.entries c.is_call-call.result
    c.as_slice-operands.result.now c.in_ok-act.field-0 c.in-Goes.n
    (c.as_slice-operands.ensures ∙ ap (λ (x : Instruction). x.operands) c.i.view_is) c.is_call-call.ensures
    c.in_ok-reserve.ensures.entries
    c.in-Goes.is c.in_ok-act.ensures.ok c.number-in-Goes.ensures.given)
