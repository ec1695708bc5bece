-- The headline for a run of the simulator.
use Rattle.std.specs.Prelude.{◌≡◌, ◌⊎◌, ℕ, List, Option, Some, true}
use Rattle.rv64_instr.specs.declared.place.Place.{Place}
use Rattle.rv64_instr.specs.declared.start.CallEvent.{CallEvent}
use Rattle.mir_func.specs.declared.debug_substitution.OperandPair.{OperandPair}
use Rattle.mir_func.specs.declared.variable.VarId.{VarId}
use Rattle.mir_func.specs.Function.{Function}
use Rattle.mir_func.specs.Graph.{Program, program_of}
use Rattle.sem_mir.specs.State.{State, Reply, IsReply}
use Rattle.sem_machine.specs.Headline.{Headline, StartsAt, AlignsWith, FailsBeforeLine, MachineAgrees}
use Rattle.sem_machine.specs.HeadlineLaws.{HasCome, HasFailed}
use Rattle.sem_machine.specs.Image.{CodeLine, Image, line_at}
use Rattle.sem_machine.specs.Machine.{Machine, machine_start}
use Rattle.sem_machine.specs.MachineStep.{Comes, IsWell, machine_step}
use Rattle.emit_code.specs.Laid.{LaidCode}
use Rattle.sim_machine.specs.declared.hart.Hart.{Hart}
use Rattle.sim_machine.specs.Kept.{StandsFor}
use Rattle.sim_machine.specs.Shown.{ShowsCode}
use Rattle.sim_proof.specs.Runs.{Runs}

-- the start with these answers as its script
abbrev pub with_script : List Reply → State → State
with_script answers s = record s { core = record s.core { script = answers } }

-- The source has come along with the machine. At the code line at the program counter both agree, or the source stops on a frame fault before it.
pub record ComesAlong (src : Program) (image : Image) (lists : VarId → (address : ℕ) → Place → Type 0) (m0 : Machine) (s0 : State) (m : Machine) : Type 0 where
  pub come : HasCome src image m0 s0 m
  pub agrees : (l : CodeLine) → line_at image.lines m.counter ≡ Some l →
      ((s : State) × AlignsWith src l come.since come.aligned s × MachineAgrees src image lists m0 m s) ⊎ FailsBeforeLine src l come.since come.aligned

-- The simulator state represents a state that the machine comes to. The source has come along with the machine or has stopped on a frame fault, and
-- at the next step the machine goes on, its run ends, or it waits for an answer.
pub record IsBeside (src : Program) (image : Image) (lists : VarId → (address : ℕ) → Place → Type 0) (s0 : State) (now : Hart) : Type 0 where
  pub machine : Machine
  pub stands : StandsFor now machine
  pub comes : Comes image (machine_start image s0) machine
  pub well : IsWell (machine_step image machine)
  pub meets : ComesAlong src image lists (machine_start image s0) s0 machine ⊎ HasFailed src image (machine_start image s0) s0

-- If the headline holds of an image of the code, and all answers to calls are sound, then a run of the simulator from a start comes to a state at
-- which the source has come along (see `IsBeside`), with the same answers.
abbrev pub RunsMeetTheHeadline : (gives : CallEvent → Reply → Type 0) → (lists : VarId → (address : ℕ) → Place → Type 0) → Type 0
RunsMeetTheHeadline gives lists = (source : Function) (resolve : OperandPair → Option OperandPair) (image : Image) (c : LaidCode) (from now : Hart)
    (s0 : State) →
    Headline source resolve image lists → ShowsCode c image → ((e : CallEvent) (r : Reply) → gives e r → IsReply r) → StartsAt source s0 →
    StandsFor from (machine_start image s0) → Runs gives c from now →
    (answers : List Reply) × IsBeside (program_of true source.blocks resolve) image lists (with_script answers s0) now
