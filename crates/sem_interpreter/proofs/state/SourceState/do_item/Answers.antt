use Rattle.std.specs.Option.{option_copied}
use Rattle.sem_interpreter.proofs.Stepping.{code_ok, mark_ok, phi_ok}
use Rattle.sem_interpreter.proofs.state.SourceState.do_item.Goals as goal

pub returns-in-Code-clause-ok : goal.returns-in-Code-clause-ok
returns-in-Code-clause-ok c =
    code_ok c.args.subs.now c.args.kind.now _
    (option_copied c.args.answer) c.args.self.now c.do_code.new.self c.in-Code.is c.do_code.result c.do_code.ensures.ok

pub returns-in-Mark-clause-ok : goal.returns-in-Mark-clause-ok
returns-in-Mark-clause-ok c =
    mark_ok c.args.subs.now c.args.kind.now _ (option_copied c.args.answer) c.args.self.now c.mark.new.self c.in-Mark.is c.mark.result c.mark.ensures.ok

pub returns-in-Phi-clause-ok : goal.returns-in-Phi-clause-ok
returns-in-Phi-clause-ok c =
    phi_ok c.args.subs.now c.args.kind.now _ (option_copied c.args.answer) c.args.self.now c.phi.new.self c.in-Phi.is c.phi.result c.phi.ensures.ok
