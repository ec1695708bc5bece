use Rattle.std.proofs.Common.{◌≡◌, ℕ, ◌<◌, length, get_or}
use Rattle.sim_start.specs.InitialMachine.{start_register}
use Rattle.sim_start.proofs.start.registers.Given as goal

abbrev pub invariant-loop-r : goal.invariant-loop-r
invariant-loop-r l = record {
  long : length l.regs ≡ 32;
  each : (k : ℕ) → k < l.r → get_or l.regs k 0 ≡ start_register l.arguments k;
}
