-- The counts of a run from the start.
use Rattle.std.specs.Prelude.{◌≡◌, ℕ, ◌≤◌, ◌<◌, List, [], Option, Some, None, true}
use Rattle.rv64_instr.specs.Linked.{addresses_in}
use Rattle.mir_func.specs.declared.debug_substitution.OperandPair.{OperandPair}
use Rattle.mir_func.specs.declared.variable.VarId.{VarId}
use Rattle.mir_func.specs.Function.{Function}
use Rattle.mir_func.specs.Graph.{block_start, program_of}
use Rattle.mir_func.specs.Objects.{area_of, offset_of}
use Rattle.sem_mir.specs.InitialState.{first_of}
use Rattle.sem_mir.specs.State.{State, content}
use Rattle.dwarf_loclists.specs.declared.range.Range.{Range}
use Rattle.sem_machine.specs.Image.{Image}
use Rattle.sem_machine.specs.Machine.{Machine}
use Rattle.emit_code.specs.Laid.{LaidCode}
use Rattle.sim_machine.specs.Shown.{ShowsCode}
use Rattle.sim_start.specs.InitialMachine.{start_register, BeginsRun}
use Rattle.selftest_count.specs.declared.counts.Counts.{Counts}
use Rattle.selftest_count.specs.Apart.{GoesApart}
use Rattle.selftest_count.specs.Counts.{AreCounts}

-- The source is at the start that corresponds to the machine's start without arguments. The script is empty, so no call is answered.
pub record BeginsSource (source : Function) (s : State) : Type 0 where
  pub pos : s.pos ≡ block_start (first_of source.blocks)
  pub entry : s.core.entry ≡ 1048576
  pub area : s.core.area ≡ area_of source.objects
  pub objects : (n : ℕ) → s.core.objects n ≡ offset_of source.objects n
  pub symbols : s.core.symbols ≡ addresses_in []
  pub regs : (r : ℕ) → r < 32 → content s.core.regs r ≡ Some (start_register [] r)
  pub virtual : (r : ℕ) → 32 ≤ r → content s.core.regs r ≡ None
  pub slots : (n : ℕ) → s.core.slots n ≡ None
  pub memory : (a : ℕ) → s.core.memory a ≡ 0
  pub script : s.core.script ≡ []
  pub events : s.core.events ≡ []
  pub pairs : (k o : ℕ) → s.core.pairs k o ≡ None
  pub marks : s.core.marks ≡ []

-- On each image of the code, the counts are those of the machine's run from the start without arguments, of at most `limit` steps, in lockstep with
-- the source's.
abbrev pub AreCountsOf : (source : Function) → (OperandPair → Option OperandPair) → LaidCode → List (List Range) → List VarId → (limit : ℕ) → Counts → Type 0
AreCountsOf source resolve c lists parts limit n =
    (image : Image) (m : Machine) (s : State) → ShowsCode c image → BeginsRun c [] [] m → BeginsSource source s →
    AreCounts (program_of true source.blocks resolve) image lists parts limit m s n

-- On each image of the code, the machine's run from the start without arguments and the source's diverge within `limit` steps.
abbrev pub GoApart : (source : Function) → (OperandPair → Option OperandPair) → LaidCode → List (List Range) → List VarId → (limit : ℕ) → Type 0
GoApart source resolve c lists parts limit =
    (image : Image) (m : Machine) (s : State) → ShowsCode c image → BeginsRun c [] [] m → BeginsSource source s →
    GoesApart (program_of true source.blocks resolve) image c lists parts limit m s
