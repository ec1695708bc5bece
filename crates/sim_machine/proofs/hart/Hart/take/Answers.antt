use Rattle.std.proofs.Common.{ℕ, ◌+◌, ap, sym, ◌∙◌}
use Rattle.sem_mir.specs.State.{written}
use Rattle.sem_interpreter.specs.Memory.{some_writes}
use Rattle.sem_machine.specs.MachineStep.{callee_size}
use Rattle.sim_machine.specs.Kept.{calls_in}
use Rattle.sim_machine.proofs.Calls.{next_call}
use Rattle.sim_machine.proofs.hart.Hart.take.Goals as goal

pub returns-clause-ok : goal.returns-clause-ok
returns-clause-ok c = λ s site rest h same.
    let set = c.set_caller_saved.ensures.stands (record s { memory = written s.memory (some_writes c.args.answer.now.writes) }) (record {
      entry = h.entry;
      area = h.area;
      symbols = h.symbols;
      counter = h.counter;
      regs = h.regs;
      memory = c.in_ok-write.ensures.ok s.memory h.memory;
      calls = h.calls;
    }) in
    record {
      entry = set.entry;
      area = set.area;
      symbols = set.symbols;
      counter = ap (λ (n : ℕ). n + callee_size site.callee) set.counter
          ∙ ap (λ (n : ℕ). c.set_caller_saved.new.self.counter + n) (sym same);
      regs = set.regs;
      memory = set.memory;
      calls = next_call (calls_in s.events) c.set_caller_saved.new.self.calls set.calls;
    }
