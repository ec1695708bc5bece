-- The headline covers every state that the machine reaches.
use Rattle.std.specs.Prelude.{◌≡◌, ◌⊎◌, ℕ, Option, Some, true}
use Rattle.rv64_instr.specs.declared.place.Place.{Place}
use Rattle.sem_mir.specs.mir_func.declared.debug_substitution.OperandPair.{OperandPair}
use Rattle.sem_mir.specs.mir_func.declared.variable.VarId.{VarId}
use Rattle.sem_mir.specs.mir_func.Function.{Function}
use Rattle.sem_mir.specs.State.{State}
use Rattle.sem_mir.specs.mir_func.Graph.{Program, program_of}
use Rattle.sem_mir.specs.Align.{Since}
use Rattle.sem_machine.specs.Image.{CodeLine, Image, line_at}
use Rattle.sem_machine.specs.Machine.{Machine, machine_start}
use Rattle.sem_machine.specs.MachineStep.{Comes}
use Rattle.sem_machine.specs.Headline.{StartsAt, FailsBeforeLine, MachineAlong, Headline}

-- the machine's run to m is matched with a run of the source
pub record HasCome (src : Program) (image : Image) (m0 : Machine) (s0 : State) (m : Machine) : Type 0 where
  pub aligned : State
  pub since : Since
  pub along : MachineAlong src image m0 s0 m aligned since

-- the source stopped on a frame fault before it matched a line that the machine reached
pub record HasFailed (src : Program) (image : Image) (m0 : Machine) (s0 : State) : Type 0 where
  pub machine : Machine
  pub aligned : State
  pub since : Since
  pub line : CodeLine
  pub along : MachineAlong src image m0 s0 machine aligned since
  pub stands : line_at image.lines machine.counter ≡ Some line
  pub fails : FailsBeforeLine src line since aligned

-- If the headline holds, each run of the machine is matched with a run of the source, unless the source stops
-- on a frame fault.
abbrev pub HeadlineReachesEveryStep : (VarId → (address : ℕ) → Place → Type 0) → Type 0
HeadlineReachesEveryStep lists = (source : Function) (resolve : OperandPair → Option OperandPair) (image : Image) → Headline source resolve image lists →
    (s0 : State) → StartsAt source s0 → (m : Machine) → Comes image (machine_start image s0) m →
    HasCome (program_of true source.blocks resolve) image (machine_start image s0) s0 m
    ⊎ HasFailed (program_of true source.blocks resolve) image (machine_start image s0) s0
