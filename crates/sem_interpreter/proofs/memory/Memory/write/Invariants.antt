use Rattle.std.proofs.Common.{◌≡◌, ℕ, ◌≤◌, ◌-◌, drop, length}
use Rattle.std.specs.HashMap.{spare}
use Rattle.sem_mir.specs.State.{written}
use Rattle.sem_interpreter.specs.Memory.{MemoryHolds, some_writes}
use Rattle.sem_interpreter.proofs.memory.Memory.write.Given as goal

abbrev pub invariant-loop-write : goal.invariant-loop-write
invariant-loop-write l = record {
  room : length l.writes - l.write-index ≤ spare l.self-inside.bytes;
  holds : (held : ℕ → ℕ) → MemoryHolds l.initial.self-inside.bytes.entries held →
      (now : ℕ → ℕ) × MemoryHolds l.self-inside.bytes.entries now ×
      (written now (some_writes (drop l.write-index l.writes)) ≡ written held (some_writes l.writes));
}
