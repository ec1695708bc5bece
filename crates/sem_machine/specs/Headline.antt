-- What location lists guarantee of a run of the machine: the theorem that the compiler's top call states.
use Rattle.std.specs.Prelude.{◌≡◌, ◌⊎◌, ℕ, List, ◌∷◌, Option, Some, false, true, All}
use Rattle.rv64_instr.specs.declared.place.Place.{Place}
use Rattle.rv64_instr.specs.Row.{way_leads_back}
use Rattle.sem_mir.specs.mir_func.declared.debug_substitution.OperandPair.{OperandPair}
use Rattle.sem_mir.specs.mir_func.declared.variable.VarId.{VarId}
use Rattle.sem_mir.specs.mir_func.Function.{Function}
use Rattle.sem_mir.specs.mir_func.Objects.{area_of}
use Rattle.sem_mir.specs.mir_func.SoundFrame.{SAVED}
use Rattle.sem_mir.specs.mir_func.Variables.{part_value}
use Rattle.sem_mir.specs.State.{State, RunResult}
use Rattle.sem_mir.specs.Step.{Returned, step}
use Rattle.sem_mir.specs.mir_func.Graph.{Program, program_of}
use Rattle.sem_mir.specs.mir_func.Positions.{position_of}
use Rattle.sem_mir.specs.InitialState.{first_of, IsInitialState}
use Rattle.sem_mir.specs.Align.{waits_at, since_of, Since, Start, First, MatchesNext, FailsBefore, Tells}
use Rattle.sem_machine.specs.Image.{CodeLine, Image, line_at}
use Rattle.sem_machine.specs.Machine.{Machine, register, place_content, machine_start}
use Rattle.sem_machine.specs.MachineStep.{Continues, Ends, machine_step, Comes, IsWell}

-- the source's run leads from s to t, its next state that matches a line: its first state at the position of the line's origin
abbrev pub AlignsWith : Program → CodeLine → Since → State → State → Type 0
AlignsWith src l since s t = MatchesNext src (First (position_of l.origin)) (position_of l.origin) since s t

-- the source stops on a frame fault before it reaches that state
abbrev pub FailsBeforeLine : Program → CodeLine → Since → State → Type 0
FailsBeforeLine src l since s = FailsBefore src (First (position_of l.origin)) (position_of l.origin) since s

-- a run of the machine from m0 to m, matched with the source's run from s0: s is the source's last matched state, and Since says
-- where the search for the next one begins; if code was added before a position, the source may still be there at the next line
pub data MachineAlong (src : Program) (image : Image) (m0 : Machine) (s0 : State) : Machine → State → Since → Type 0 where
  at_start : MachineAlong src image m0 s0 m0 s0 Start
  after_step : {m m' : Machine} {s s' : State} {since : Since} (l : CodeLine) → MachineAlong src image m0 s0 m s since →
      line_at image.lines m.counter ≡ Some l → AlignsWith src l since s s' → machine_step image m ≡ Continues m' →
      MachineAlong src image m0 s0 m' s' (since_of (waits_at false l.origin))

-- a start state of the function
abbrev pub StartsAt : Function → State → Type 0
StartsAt f s = IsInitialState f.objects (first_of f.blocks) s

-- the registers that have their content at entry when a function returns: the stack pointer, the return address and the
-- callee-saved registers (RISC-V ELF psABI, "Integer Register Convention")
abbrev pub KEPT : List ℕ
KEPT = 2 ∷ SAVED

-- what agrees in matching states, m of the machine, whose run began at m0, and s of the source: the stores and calls so far are
-- the same; if the machine ends next, so does the source, with the same result, and where its way leads back to the caller the registers of KEPT
-- are as at m0; and each location that a list names for a part of a variable has the value of its newest assignment
pub record MachineAgrees (src : Program) (image : Image) (lists : VarId → ℕ → Place → Type 0) (m0 m : Machine) (s : State) : Type 0 where
  pub events : m.events ≡ s.core.events
  pub returns : (result : RunResult) → machine_step image m ≡ Ends result → step src s ≡ Returned result
  pub kept : (result : RunResult) → machine_step image m ≡ Ends result → way_leads_back result.way ≡ true → All (λ r. register m r ≡ register m0 r) KEPT
  pub places : (v : VarId) (place : Place) → lists v m.counter place → Tells s v (part_value v (place_content place m))

-- the theorem, of a source, its image and its location lists: for every start state, script and number of machine steps
pub record Headline (source : Function) (resolve : OperandPair → Option OperandPair) (image : Image) (lists : VarId → ℕ → Place → Type 0) : Type 0 where
  -- the image's stack objects take as many bytes as the source's
  pub area : image.area ≡ area_of source.objects
  -- at each line that the machine reaches, the source reaches the line's origin and both agree, unless the source stops on a
  -- frame fault before it
  pub agrees : (s0 : State) → StartsAt source s0 → (m : Machine) (s : State) (since : Since) (l : CodeLine) →
      MachineAlong (program_of true source.blocks resolve) image (machine_start image s0) s0 m s since → line_at image.lines m.counter ≡ Some l →
      ((s' : State) × AlignsWith (program_of true source.blocks resolve) l since s s' ×
      MachineAgrees (program_of true source.blocks resolve) image lists (machine_start image s0) m s')
      ⊎ FailsBeforeLine (program_of true source.blocks resolve) l since s
  -- at each step the machine goes on, its run ends, or it waits for a reply, whatever the source does
  pub stops : (s0 : State) → StartsAt source s0 → (m : Machine) → Comes image (machine_start image s0) m → IsWell (machine_step image m)
