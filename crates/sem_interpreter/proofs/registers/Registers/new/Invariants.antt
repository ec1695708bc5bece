use Rattle.std.proofs.Common.{◌≡◌, ℕ, ◌<◌, length, None}
use Rattle.std.specs.Prelude.{slice_index_or}
use Rattle.sem_interpreter.specs.Places.{starting_registers}
use Rattle.sem_mir.specs.State.{content}
use Rattle.sem_interpreter.proofs.registers.Registers.new.Given as goal

abbrev pub invariant-loop-r : goal.invariant-loop-r
invariant-loop-r l = record {
  long : length l.contents.items ≡ l.r;
  same : (q : ℕ) → q < l.r → content (starting_registers l.start) q ≡ slice_index_or l.contents.items q None;
}
