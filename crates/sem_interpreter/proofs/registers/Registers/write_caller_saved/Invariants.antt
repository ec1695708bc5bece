use Rattle.std.proofs.Common.{◌≡◌, ℕ, Option, drop}
use Rattle.rv64_instr.specs.DefsAndUses.{caller_saved}
use Rattle.sem_mir.specs.State.{put_all}
use Rattle.sem_interpreter.specs.Places.{AreRegisters, RegistersHold}
use Rattle.sem_interpreter.proofs.registers.Registers.write_caller_saved.Given as goal

abbrev pub invariant-loop-i : goal.invariant-loop-i
invariant-loop-i l = record {
  are : AreRegisters l.self-inside.contents.items;
  holds : (held : ℕ → Option ℕ) → RegistersHold l.initial.self-inside.contents.items held →
      (now : ℕ → Option ℕ) × RegistersHold l.self-inside.contents.items now ×
      (put_all (drop l.i caller_saved) (drop l.i l.values) now ≡ put_all caller_saved l.values held);
}
