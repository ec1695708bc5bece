-- What location lists that are true in every frame guarantee of a suspended frame, which a debugger looks up at its return address less one.
use Rattle.std.specs.Prelude.{◌≡◌, ◌⊎◌, ◌≤◌, ℕ, true, List, Contains, Option, Some, None, slice_get}
use Rattle.rv64_instr.specs.declared.place.Place.{Place}
use Rattle.mir_func.specs.declared.debug_substitution.OperandPair.{OperandPair}
use Rattle.mir_func.specs.declared.variable.VarId.{VarId}
use Rattle.mir_func.specs.Function.{Function}
use Rattle.mir_func.specs.Graph.{Program, block_start, program_of, framed_program}
use Rattle.mir_func.specs.Limits.{MAX_FRAME}
use Rattle.mir_func.specs.Sound.{AllItems}
use Rattle.mir_func.specs.SoundFrame.{HasPhysical}
use Rattle.mir_func.specs.Variables.{part_value}
use Rattle.sem_mir.specs.Align.{Since, Tells}
use Rattle.sem_mir.specs.State.{State}
use Rattle.sem_machine.specs.Headline.{StartsAt, AlignsWith, FailsBeforeLine, MachineAlong}
use Rattle.sem_machine.specs.Image.{CodeLine, Image, line_at}
use Rattle.sem_machine.specs.Machine.{Machine, machine_start, place_content}
use Rattle.emit_code.specs.declared.code.EncodedInstruction.{EncodedInstruction}
use Rattle.emit_code.specs.Rule.{entries_of}
use Rattle.frame_rule.specs.Rule.{reach_of, framed_of}
use Rattle.machine_proof.specs.Followers.{IsFollower}
use Rattle.machine_proof.specs.LaidOut.{IsImageOfFunction}
use Rattle.frame_theorem.specs.Suspended.{KeepsCaller}
use Rattle.dwarf_loclists.specs.declared.range.Range.{Range}
use Rattle.dwarf_loclists.specs.Ranges.{location_in}
use Rattle.location_of_variable.specs.Groups.{part_of}
use Rattle.location_of_variable.specs.Gives.{GivesPart}
use Rattle.location_ranges.specs.Lists.{point_of}
use Rattle.kept_ranges.specs.Calls.{lookup_of, passed_at}
use Rattle.kept_ranges.specs.Lists.{AreKeptListsOf}

-- an entry begins at the address, from which a callee is passed these slots
pub record PassesAt (g : Program) (entries : List EncodedInstruction) (address : ℕ) (passed : List ℕ) : Type 0 where
  pub entry : EncodedInstruction
  pub among : Contains entries entry
  pub begins : entry.address ≡ address
  pub passes : passed_at (g.fetch (point_of entry)) ≡ Some passed

-- the list of a variable gives a part of it this place where a debugger looks up a frame that is suspended in the entry at the address
pub record GivesSuspended (entries : List EncodedInstruction) (variables : List VarId) (lists : List (List Range)) (v : VarId) (address : ℕ) (place : Place) :
    Type 0 where
  pub entry : EncodedInstruction
  pub among : Contains entries entry
  pub begins : entry.address ≡ address
  pub number : ℕ
  pub ranges : List Range
  pub named : slice_get variables number ≡ Some (part_of v None)
  pub listed : slice_get lists number ≡ Some ranges
  pub gives : GivesPart (location_in ranges (lookup_of entry)) v.fragment place

-- each such place at m's counter holds in k the value of the newest assignment in the source's state s
abbrev pub HoldSuspended : List EncodedInstruction → List VarId → List (List Range) → (m k : Machine) → State → Type 0
HoldSuspended entries variables lists m k s = (v : VarId) (place : Place) → GivesSuspended entries variables lists v m.counter place →
    Tells s v (part_value v (place_content place k))

-- Backtrace. Where the machine comes to code from which control goes to a callee, a debugger that reads these places in registers and memory k, which agree
-- with the machine's in what the callee has to keep, finds the source's values, unless the source stops on a frame fault before: if the lists are exact in
-- every frame.
abbrev pub SuspendedListsHold : Type 0
SuspendedListsHold = (source f : Function) (resolve fresolve : OperandPair → Option OperandPair) (image : Image) →
    IsFollower source f resolve fresolve → AllItems (λ i. HasPhysical i.kind) f.blocks → reach_of f ≤ MAX_FRAME → (is : IsImageOfFunction f image) →
    (variables : List VarId) (lists : List (List Range)) →
    AreKeptListsOf (framed_program (framed_of f).blocks fresolve) (block_start 0) (entries_of is.layout) variables lists → (s0 : State) →
    StartsAt source s0 → (m : Machine) (s : State) (since : Since) (l : CodeLine) →
    MachineAlong (program_of true source.blocks resolve) image (machine_start image s0) s0 m s since → line_at image.lines m.counter ≡ Some l →
    (passed : List ℕ) → PassesAt (framed_program (framed_of f).blocks fresolve) (entries_of is.layout) m.counter passed → (k : Machine) →
    KeepsCaller passed m k →
    ((s' : State) × AlignsWith (program_of true source.blocks resolve) l since s s' × HoldSuspended (entries_of is.layout) variables lists m k s')
    ⊎ FailsBeforeLine (program_of true source.blocks resolve) l since s
