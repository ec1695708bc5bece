use Rattle.std.proofs.Common.{ℕ, List, ◌++◌, ap, sym, ◌∙◌}
use Rattle.rv64_instr.specs.DefsAndUses.{callee_reads}
use Rattle.rv64_instr.specs.Row.{outgoing_words}
use Rattle.sem_mir.specs.Step.{are_written}
use Rattle.sem_interpreter.proofs.Rows.{faults}
use Rattle.sem_interpreter.proofs.Ends.{calls_faults, calls_waits, calls_ok}
use Rattle.sem_interpreter.proofs.machine.InterpreterState.call.Goals as goal

pub returns-then-not-may_call-clause-ok : goal.returns-then-not-may_call-clause-ok
returns-then-not-may_call-clause-ok c = λ call shows same passes. faults c.args.self.now _ (calls_faults c.args.self.now call
    (λ s holds. c.if-not-may_call.ensures call.callee shows s holds
    ∙ ap (λ (rs : List ℕ). are_written s (callee_reads call.callee ++ rs)) (sym same))) _

pub returns-in-Some-clause-ok : goal.returns-in-Some-clause-ok
returns-in-Some-clause-ok c =
    rw c.in-Some.is (calls_ok c.args.self.now c.take.new.self c.args.callee c.args.operands.now (outgoing_words c.args.operands.now) c.in-Some.given.now
    (λ call shows same s holds. c.if-not-may_call.ensures call.callee shows s holds
    ∙ ap (λ (rs : List ℕ). are_written s (callee_reads call.callee ++ rs)) (sym same)) c.take.result c.take.ensures.ok)

pub returns-in-None-clause-ok : goal.returns-in-None-clause-ok
returns-in-None-clause-ok c = rw c.in-None.is (λ call shows same passes. calls_waits c.args.self.now call
    (λ s holds. c.if-not-may_call.ensures call.callee shows s holds
    ∙ ap (λ (rs : List ℕ). are_written s (callee_reads call.callee ++ rs)) (sym same)))
