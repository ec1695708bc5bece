-- Calls of the machine and their answers.
use Rattle.std.specs.Prelude.{◌+◌, ◌%◌, ◌^◌, List, ◌∷◌}
use Rattle.rv64_instr.specs.DefsAndUses.{caller_saved}
use Rattle.rv64_instr.specs.declared.start.CallEvent.{CallEvent}
use Rattle.rv64_instr.specs.Row.{CallSite}
use Rattle.sem_mir.specs.State.{Reply, Called}
use Rattle.sem_machine.specs.Machine.{Machine, set_all_in}
use Rattle.sem_machine.specs.MachineStep.{past, passed, memory_after, called_at, callee_size}
use Rattle.sim_machine.specs.Kept.{calls_in}

-- The event of a call: what it calls, the values that it passes, and the number of the call in the run, from 1, modulo 2^64.
abbrev pub event_of : CallSite → Machine → CallEvent
event_of site s = record {
  target = called_at s site.callee;
  args = passed s site;
  number = (calls_in s.events + 1) % 2 ^ 64;
}

-- the machine after a call with this answer, with the rest of the script
abbrev pub after_call : CallSite → Reply → (rest : List Reply) → Machine → Machine
after_call site r rest s =
    let regs = set_all_in caller_saved r.regs s.regs in
    past (callee_size site.callee) (record s {
      regs = regs;
      memory = memory_after site.outgoing r s;
      script = rest;
      events = Called (called_at s site.callee) (passed s site) ∷ s.events;
    })
