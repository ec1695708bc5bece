use Rattle.std.proofs.Common.{◌≡◌, ℕ, ◌≤◌, ◌+◌, ◌-◌}
use Rattle.std.specs.HashMap.{spare}
use Rattle.sem_mir.specs.State.{stored, low_bytes}
use Rattle.sem_interpreter.specs.Memory.{MemoryHolds}
use Rattle.sem_interpreter.proofs.memory.Memory.store.Given as goal

abbrev pub invariant-loop-k : goal.invariant-loop-k
invariant-loop-k l = record {
  room : l.count - l.k ≤ spare l.self-inside.bytes;
  holds : (held : ℕ → ℕ) → MemoryHolds l.initial.self-inside.bytes.entries held →
      (now : ℕ → ℕ) × MemoryHolds l.self-inside.bytes.entries now ×
      (stored now (l.address + l.k) (low_bytes (l.count - l.k) l.rest) ≡ stored held l.address (low_bytes l.count l.number));
}
