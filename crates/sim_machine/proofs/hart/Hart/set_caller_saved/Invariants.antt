use Rattle.std.proofs.Common.{◌≡◌, ℕ, drop}
use Rattle.rv64_instr.specs.DefsAndUses.{caller_saved}
use Rattle.sem_machine.specs.Machine.{Machine, set_all_in}
use Rattle.sim_machine.specs.Kept.{StandsFor, IsSameFrame}
use Rattle.sim_machine.proofs.hart.Hart.set_caller_saved.Given as goal

abbrev pub invariant-loop-i : goal.invariant-loop-i
invariant-loop-i l = record {
  stands : (s : Machine) → StandsFor l.initial.self s → (regs : ℕ → ℕ) × StandsFor l.self (record s { regs = regs }) ×
      (set_all_in (drop l.i caller_saved) (drop l.i l.values) regs ≡ set_all_in caller_saved l.values s.regs);
  counter : l.self.counter ≡ l.initial.self.counter;
  same : IsSameFrame l.initial.self l.self;
}
