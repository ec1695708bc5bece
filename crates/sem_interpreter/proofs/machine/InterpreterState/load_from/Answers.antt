use Rattle.std.proofs.Common.{ap, ◌∙◌}
use Rattle.rv64_instr.specs.Arithmetic.{extended}
use Rattle.sem_mir.specs.State.{spelled}
use Rattle.sem_mir.specs.Step.{is_fault}
use Rattle.sem_interpreter.specs.Memory.{number_in}
use Rattle.sem_interpreter.proofs.Rows.{loaded_falls, loaded_faults}
use Rattle.sem_interpreter.proofs.machine.InterpreterState.load_from.Goals as goal

pub returns : goal.returns
returns c x is =
    let width = c.load_width-count.ensures in
    loaded_falls c.args.self.now c.write.new.self c.args.rd c.args.address c.extend.result c.args.op x
    (λ s holds. c.if-is_fault.ensures x is s holds ∙ ap (is_fault x s c.args.address) width)
    (c.extend.ensures ∙ ap (extended c.args.op) (c.spelled.ensures.value ∙ ap (spelled (number_in c.args.self.now.memory) c.args.address) width))
    c.write.ensures

pub returns-then-is_fault : goal.returns-then-is_fault
returns-then-is_fault c x is =
    loaded_faults c.args.self.now c.args.rd c.args.address c.args.op x
    (λ s holds. c.if-is_fault.ensures x is s holds ∙ ap (is_fault x s c.args.address) c.load_width-count.ensures)
