-- The simulator in contracts, and its start.
use Rattle.std.specs.Prelude.{◌≡◌, ℕ, ◌<◌, [], slice_index}
use Rattle.rv64_instr.specs.Linked.{addresses_in}
use Rattle.rv64_instr.specs.declared.start.Start.{Start}
use Rattle.mir_func.specs.Objects.{area_of}
use Rattle.sem_mir.specs.State.{written}
use Rattle.emit_code.specs.Laid.{LaidCode}
use Rattle.sem_machine.specs.Machine.{Machine, register, register_in}
use Rattle.sim_machine.specs.declared.hart.Hart.{Hart}

-- the code, the answers to its calls, and the state
pub record Running (A : Type 0) : Type 0 where
  pub code : LaidCode
  pub answers : A
  pub hart : Hart

-- The machine state is at the start of the code, with these registers, of which x0 reads 0, and this memory. The script is arbitrary.
pub record StartsCode (c : LaidCode) (start : Start) (s : Machine) : Type 0 where
  pub entry : s.entry ≡ slice_index start.regs 2
  pub area : s.area ≡ area_of c.framed.objects
  pub symbols : s.symbols ≡ addresses_in start.symbols
  pub counter : s.counter ≡ c.base
  pub regs : (r : ℕ) → r < 32 → register s r ≡ register_in (slice_index start.regs) r
  pub memory : (a : ℕ) → s.memory a ≡ written (λ _. 0) start.memory a
  pub events : s.events ≡ []
