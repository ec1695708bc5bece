-- What the rules of a frame's state find where the frame stands.
use Rattle.std.specs.Prelude.{◌≡◌, ◌⊎◌, ◌≤◌, ℕ, true, List, All, Contains, IsSome, Option, Some}
use Rattle.mir_func.specs.declared.debug_substitution.OperandPair.{OperandPair}
use Rattle.mir_func.specs.declared.position.Pos.{Pos}
use Rattle.mir_func.specs.Function.{Function, FramedFunction}
use Rattle.mir_func.specs.Graph.{program_of}
use Rattle.mir_func.specs.Limits.{MAX_FRAME}
use Rattle.mir_func.specs.Sound.{AllItems}
use Rattle.mir_func.specs.SoundFrame.{SAVED, HasPhysical, IsFramed}
use Rattle.sem_mir.specs.Align.{Since}
use Rattle.sem_mir.specs.State.{Core, State, content}
use Rattle.sem_mir.specs.Step.{read}
use Rattle.sem_machine.specs.Headline.{KEPT, StartsAt, FailsBeforeLine, MachineAlong}
use Rattle.sem_machine.specs.Image.{CodeLine, Image, line_at}
use Rattle.sem_machine.specs.Machine.{Machine, machine_start, register}
use Rattle.emit_code.specs.declared.code.EncodedInstruction.{EncodedInstruction}
use Rattle.emit_code.specs.Rule.{Layout, entries_of}
use Rattle.frame_rule.specs.Rule.{reach_of, framed_of}
use Rattle.machine_steps_proof.specs.Beside.{Beside}
use Rattle.machine_proof.specs.Entries.{IsEntryAt}
use Rattle.machine_proof.specs.Followers.{IsFollower}
use Rattle.machine_proof.specs.LaidOut.{IsImageOfFunction}
use Rattle.frame_proof.specs.Stands.{frame_state, IsEntered, FrameStands}
use Rattle.dwarf_frame.specs.Rows.{RulesAt, unwinding}
use Rattle.frame_table.specs.Table.{frame_row, entry_row}
use Rattle.frame_theorem.specs.Unwinding.{found, AlwaysUnwinds}

-- no register that a function gives back is undefined
abbrev pub SparesKept : (undefined : List ℕ) → Type 0
SparesKept undefined = All (λ r. Contains undefined r → ⊥) SAVED

-- The machine m0 is at a function's start, with the registers of a core e.
pub record BeginsWith (e : Core) (m0 : Machine) : Type 0 where
  pub entered : IsEntered e
  pub written : (r : ℕ) → Contains SAVED r → IsSome (content e.regs r)
  pub registers : (r : ℕ) → register m0 r ≡ read e r

-- The machine m is beside a core of the same run at which the frame stands.
pub record StandsBeside (f : FramedFunction) (e : Core) (p : Pos) (m : Machine) : Type 0 where
  pub core : Core
  pub entry : core.entry ≡ e.entry
  pub beside : Beside f core m
  pub stands : FrameStands f e p core

-- By the rules of the frame's state there the stack pointer, the return address and the callee-saved registers have the values that they
-- had in m0.
abbrev pub StandingUnwinds : Type 0
StandingUnwinds = (undefined : List ℕ) → SparesKept undefined → (f : FramedFunction) → IsFramed f → (e : Core) (m0 : Machine) → BeginsWith e m0 →
    (p : Pos) (m : Machine) → StandsBeside f e p m →
    All (λ r. found (unwinding undefined (frame_row f (frame_state f p))) m r ≡ Some (register m0 r)) KEPT

-- An entry of the layout begins at the machine's counter, and the frame stands at its point.
pub record StandsAt (l : Layout) (f : FramedFunction) (e : Core) (m : Machine) : Type 0 where
  pub point : Pos
  pub entry : IsEntryAt l m.counter point
  pub stands : StandsBeside f e point m

-- So it is at each line that the machine comes to on the image of a function that simulates a source, unless the source stops on a frame fault before the
-- line.
abbrev pub FramesStand : Type 0
FramesStand = (source f : Function) (resolve fresolve : OperandPair → Option OperandPair) (image : Image) → IsFollower source f resolve fresolve →
    AllItems (λ i. HasPhysical i.kind) f.blocks → reach_of f ≤ MAX_FRAME → (is : IsImageOfFunction f image) → (s0 : State) → StartsAt source s0 →
    (m : Machine) (s : State) (since : Since) (l : CodeLine) →
    MachineAlong (program_of true source.blocks resolve) image (machine_start image s0) s0 m s since → line_at image.lines m.counter ≡ Some l →
    StandsAt is.layout (framed_of f) s0.core m ⊎ FailsBeforeLine (program_of true source.blocks resolve) l since s

-- by a section the rules at the address of each entry of a layout are those of the frame's state at its point
abbrev pub ShowsFrames : (undefined section : List ℕ) → Layout → Type 0
ShowsFrames undefined section l = (e : EncodedInstruction) → Contains (entries_of l) e →
    RulesAt undefined section e.address (unwinding undefined (entry_row l.framed e).rules)

-- Such a section unwinds to the start at each line that the machine comes to on the image of a function that simulates a source, unless the source
-- stops on a frame fault before the line.
abbrev pub FollowersUnwind : Type 0
FollowersUnwind = (undefined section : List ℕ) → SparesKept undefined → (source f : Function) (resolve fresolve : OperandPair → Option OperandPair)
    (image : Image) → IsFollower source f resolve fresolve → AllItems (λ i. HasPhysical i.kind) f.blocks → reach_of f ≤ MAX_FRAME →
    (is : IsImageOfFunction f image) → ShowsFrames undefined section is.layout → AlwaysUnwinds undefined section source resolve image
