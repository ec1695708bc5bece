use Rattle.std.specs.Option.{option_copied}
use Rattle.sem_interpreter.proofs.Stepping.{code_like}
use Rattle.sem_interpreter.proofs.state.SourceState.do_code.Goals as goal

pub returns-in-None-clause-ok : goal.returns-in-None-clause-ok
returns-in-None-clause-ok c =
    code_like c.args.i.now c.args.k _ (option_copied c.args.answer) c.args.self.now c.do_plain.new.self c.in-None.is c.do_plain.result c.do_plain.ensures.ok

pub returns-in-Some-clause-ok : goal.returns-in-Some-clause-ok
returns-in-Some-clause-ok c = code_like c.args.i.now c.args.k _
    (option_copied c.args.answer) c.args.self.now c.do_numbered.new.self c.in-Some.is c.do_numbered.result c.do_numbered.ensures.ok
