-- The simulator's state, and the machine states that it represents.
use Rattle.std.specs.Prelude.{◌≡◌, ℕ, suc, ◌%◌, ◌^◌, ◌<◌, List, [], ◌∷◌, slice_index}
use Rattle.rv64_instr.specs.Linked.{addresses_in}
use Rattle.sem_interpreter.specs.Memory.{MemoryHolds}
use Rattle.sem_mir.specs.State.{Event, Called, Wrote}
use Rattle.sem_machine.specs.Machine.{Machine, register}
use Rattle.sem_machine.specs.MachineStep.{Stepped, Continues}
use Rattle.sim_machine.specs.declared.hart.Hart.{Hart}

-- the number of calls among events
abbrev pub calls_in : List Event → ℕ
calls_in [] = 0
calls_in (Called target args ∷ events) = suc (calls_in events)
calls_in (Wrote a bytes ∷ events) = calls_in events

-- A simulator state represents a machine state: all parts but the script and the events are equal. Of the events only the calls are counted, modulo
-- 2^64.
pub record StandsFor (h : Hart) (s : Machine) : Type 0 where
  pub entry : s.entry ≡ h.entry
  pub area : s.area ≡ h.area
  pub symbols : s.symbols ≡ addresses_in h.symbols
  pub counter : s.counter ≡ h.counter
  pub regs : (r : ℕ) → r < 32 → register s r ≡ slice_index h.regs r
  pub memory : MemoryHolds h.memory s.memory
  pub calls : calls_in s.events % 2 ^ 64 ≡ h.calls

-- A step continues to a state that the simulator state represents.
pub record Goes (step : Stepped) (now : Hart) : Type 0 where
  pub to : Machine
  pub goes : step ≡ Continues to
  pub stands : StandsFor now to

-- the stack pointer at entry and the size of the stack objects are the same
abbrev pub IsSameFrame : (old new : Hart) → Type 0
IsSameFrame old new = (new.entry ≡ old.entry) × (new.area ≡ old.area)
