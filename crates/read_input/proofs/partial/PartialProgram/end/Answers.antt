use Rattle.std.proofs.Common.{[], sym, ◌∙◌, rules}
use Rattle.std.proofs.lemmas.Result.{on_ok_weaker}
use Rattle.read_input.proofs.Program.{ends-refused, ends-stop, ends-all}
use Rattle.read_input.proofs.partial.PartialProgram.end.Goals as goal

pub returns-then-is_some-clause-ends : goal.returns-then-is_some-clause-ends
returns-then-is_some-clause-ends c = λ documents known. ends-refused c.args.self.now documents [] (sym c.is_some.ensures ∙ c.if-is_some.true) known

pub returns-in-Some-clause-ends : goal.returns-in-Some-clause-ends
returns-in-Some-clause-ends c =
    on_ok_weaker c.stop.result (λ stops documents known. ends-stop c.args.self.now c.stop.new.self c.in-Some.bad (search rules) (sym c.fault_at_end.ensures
    ∙ c.in-Some.is) stops documents known) c.stop.ensures.stops

pub returns-in-None-clause-ends : goal.returns-in-None-clause-ends
returns-in-None-clause-ends c =
    on_ok_weaker c.read_on.result (λ all documents known. ends-all c.args.self.now c.read_on.new.self all (search rules) (sym c.fault_at_end.ensures
    ∙ c.in-None.is) documents known) c.read_on.ensures.read
