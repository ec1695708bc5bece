use Rattle.std.proofs.Common.{◌≡◌, ℕ, drop}
use Rattle.sem_mir.specs.State.{written}
use Rattle.sem_interpreter.specs.Memory.{MemoryHolds}
use Rattle.sem_interpreter.proofs.memory.Memory.new.Given as goal

abbrev pub invariant-loop-cell : goal.invariant-loop-cell
invariant-loop-cell l = (now : ℕ → ℕ) × MemoryHolds l.bytes.entries now × (written now (drop l.cell-index l.cells) ≡ written (λ _. 0) l.cells)
