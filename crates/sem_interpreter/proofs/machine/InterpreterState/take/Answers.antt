use Rattle.rv64_instr.specs.Row.{outgoing_words}
use Rattle.sem_interpreter.proofs.Ends.{takes_unpassed, takes_faults, takes_falls}
use Rattle.sem_interpreter.proofs.machine.InterpreterState.take.Goals as goal

pub returns-then-not-are_passed-clause-ok : goal.returns-then-not-are_passed-clause-ok
returns-then-not-are_passed-clause-ok c =
    takes_unpassed c.args.self.now (outgoing_words c.args.operands.now) c.args.answer.now c.if-not-are_passed.ensures

pub returns-then-writes_frame-clause-ok : goal.returns-then-writes_frame-clause-ok
returns-then-writes_frame-clause-ok c =
    takes_faults c.args.self.now (outgoing_words c.args.operands.now) c.args.answer.now c.if-not-are_passed.ensures c.if-writes_frame.ensures

pub returns-clause-ok : goal.returns-clause-ok
returns-clause-ok c =
    takes_falls c.args.self.now c.write_caller_saved.new.self c.clear_passed.new.self c.write.new.self c.args.operands.now c.args.answer.now
    c.if-not-are_passed.ensures c.if-writes_frame.ensures c.write_caller_saved.ensures c.clear_passed.ensures c.in_ok-write.ensures.ok
