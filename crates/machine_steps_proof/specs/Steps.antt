-- One step of a function with its frame against the machine's.
use Rattle.std.specs.Prelude.{◌≡◌, ℕ, suc, ◌+◌, Option, Some, false, true}
use Rattle.mir_func.specs.declared.debug_substitution.OperandPair.{OperandPair}
use Rattle.mir_func.specs.declared.item.Item.{Item}
use Rattle.mir_func.specs.declared.position.Origin.TheVariants.{Before}
use Rattle.mir_func.specs.declared.exit.Exit.TheVariants.{Perhaps}
use Rattle.mir_func.specs.Exits.{exit_of}
use Rattle.mir_func.specs.Function.{FramedFunction}
use Rattle.mir_func.specs.declared.position.Pos.{Pos}
use Rattle.mir_func.specs.Graph.{Here, EndOfBlock, Program, below, block_start, framed_program}
use Rattle.mir_func.specs.SoundFrame.{IsFramed}
use Rattle.mir_func.specs.Positions.{position_of}
use Rattle.sem_mir.specs.Align.{is_code}
use Rattle.sem_mir.specs.State.{State, IsInRange, RunResult}
use Rattle.sem_mir.specs.Step.{Went, Returned, Faulted, Waits, step}
use Rattle.sem_machine.specs.Image.{CodeLine, Image, line_at}
use Rattle.sem_mir.specs.InitialState.{IsInitialState}
use Rattle.sem_simulation.specs.Words.{SameCode}
use Rattle.sem_machine.specs.Machine.{Machine, machine_start}
use Rattle.sem_machine.specs.MachineStep.{Continues, Ends, Awaits, machine_step}
use Rattle.machine_steps_proof.specs.Beside.{Beside}
use Rattle.machine_steps_proof.specs.Laid.{fetched, IsLaidAt}
use Rattle.machine_steps_proof.specs.Pointer.{IsPointerAt}

module _ (f : FramedFunction) (resolve : OperandPair → Option OperandPair) (image : Image) (laid : IsLaidAt f image) where
  abbrev pub framed_run : Program
  framed_run = framed_program f.blocks resolve

  -- the machine matches a state of the function with its frame, and its program counter is the address of the state's position
  pub record Level (t : State) (m : Machine) : Type 0 where
    pub beside : Beside f t.core m
    pub range : IsInRange t.core
    pub pointer : IsPointerAt f t.pos t.core
    pub counter : m.counter ≡ laid.address t.pos

  -- the step of an instruction with one line, and the machine's step
  pub data OneStep (t : State) (m : Machine) : Type 0 where
    goes : (u : State) (n : Machine) → step framed_run t ≡ Went u → machine_step image m ≡ Continues n → Level u n → OneStep t m
    gives : (result : RunResult) → step framed_run t ≡ Returned result → machine_step image m ≡ Ends result → OneStep t m
    waits : step framed_run t ≡ Waits → machine_step image m ≡ Awaits → OneStep t m
    faults : step framed_run t ≡ Faulted → ((result : RunResult) → machine_step image m ≡ Ends result → ⊥) → OneStep t m

  -- the step of a long branch, and the machine's: if the branch isn't taken, one step over the second word; otherwise one to the
  -- second word, and one from it to the target
  pub data TwoSteps (t : State) (m : Machine) : Type 0 where
    over : (u : State) (n : Machine) → step framed_run t ≡ Went u → machine_step image m ≡ Continues n → u.pos ≡ below t.pos →
        SameCode u.core t.core → Level u n → TwoSteps t m
    through : (u : State) (k n : Machine) → step framed_run t ≡ Went u → machine_step image m ≡ Continues k → k.counter ≡ m.counter + 4 →
        Beside f t.core k → machine_step image k ≡ Continues n → SameCode u.core t.core → Level u n → TwoSteps t m

  -- the machine at the address of an instruction: the instruction's lines there, and the machine's steps
  pub data AtCode (t : State) (m : Machine) (i : Item) : Type 0 where
    single : (l : CodeLine) → line_at image.lines m.counter ≡ Some l → l.origin ≡ i.origin → OneStep t m → AtCode t m i
    double : (l j : CodeLine) → line_at image.lines m.counter ≡ Some l → line_at image.lines (m.counter + 4) ≡ Some j →
        l.origin ≡ Before (position_of i.origin) → j.origin ≡ i.origin → (b : ℕ) → exit_of i.kind ≡ Perhaps b → TwoSteps t m → AtCode t m i

  -- the function steps to position p with the same registers, slots and memory while the machine stays, and both match again
  pub record StaysLevel (t : State) (m : Machine) (p : Pos) : Type 0 where
    pub next : State
    pub went : step framed_run t ≡ Went next
    pub at : next.pos ≡ p
    pub code : SameCode next.core t.core
    pub level : Level next m

-- At the address of an instruction the machine's steps simulate the instruction's.
abbrev pub StepsBeside : Type 0
StepsBeside = (f : FramedFunction) → IsFramed f → (resolve : OperandPair → Option OperandPair) (image : Image) (laid : IsLaidAt f image)
    (t : State) (m : Machine) → Level f resolve image laid t m → (i : Item) → fetched f t.pos ≡ Here i → is_code i.kind ≡ true →
    AtCode f resolve image laid t m i

-- A step over a debug item or a block's end is no step of the machine, and preserves the match.
abbrev pub StaysBeside : Type 0
StaysBeside = (f : FramedFunction) → IsFramed f → (resolve : OperandPair → Option OperandPair) (image : Image) (laid : IsLaidAt f image)
    (t : State) (m : Machine) → Level f resolve image laid t m →
    ((i : Item) → fetched f t.pos ≡ Here i → is_code i.kind ≡ false → StaysLevel f resolve image laid t m (below t.pos)) ×
    ((k n : ℕ) → fetched f t.pos ≡ EndOfBlock k n → StaysLevel f resolve image laid t m (block_start (suc t.pos.block)))

-- The start states match.
abbrev pub StartsBeside : Type 0
StartsBeside = (f : FramedFunction) → IsFramed f → (resolve : OperandPair → Option OperandPair) (image : Image) (laid : IsLaidAt f image)
    (first : ℕ) (s : State) → IsInitialState f.objects first s →
    Level f resolve image laid (record { pos = block_start 0; core = s.core }) (machine_start image s)
