-- A function that waits at a call: what a callee leaves as it is, and what location lists say of a suspended frame (RISC-V ELF psABI, "Integer Calling
-- Convention").
use Rattle.std.specs.Prelude.{◌≡◌, ◌⊎◌, ◌≤◌, ◌<◌, ℕ, ◌+◌, ◌-◌, true, false, List, ◌∷◌, Contains, Option, Some}
use Rattle.rv64_instr.specs.declared.place.Place.{Place}
use Rattle.rv64_instr.specs.declared.place.Place.TheVariants.{Register, Slot, Const}
use Rattle.rv64_instr.specs.DefsAndUses.{caller_saved}
use Rattle.rv64_instr.specs.Row.{CallSite, row_of}
use Rattle.mir_func.specs.declared.debug_substitution.OperandPair.{OperandPair}
use Rattle.mir_func.specs.declared.variable.VarId.{VarId}
use Rattle.mir_func.specs.Function.{Function}
use Rattle.mir_func.specs.Graph.{program_of, framed_program}
use Rattle.mir_func.specs.Limits.{MAX_FRAME}
use Rattle.mir_func.specs.Sound.{AllItems}
use Rattle.mir_func.specs.SoundFrame.{HasPhysical}
use Rattle.mir_func.specs.Variables.{part_value}
use Rattle.sem_mir.specs.Align.{Since, Tells}
use Rattle.sem_mir.specs.State.{State, Reply, in_frame, writes_frame}
use Rattle.sem_machine.specs.Headline.{StartsAt, AlignsWith, FailsBeforeLine, MachineAlong}
use Rattle.sem_machine.specs.Image.{CodeLine, Image, line_at}
use Rattle.sem_machine.specs.Machine.{Machine, machine_start, register, place_content}
use Rattle.sem_machine.specs.MachineStep.{Continues, machine_step, call_of, in_words}
use Rattle.frame_rule.specs.Rule.{reach_of, framed_of}
use Rattle.machine_proof.specs.Entries.{IsEntryAt}
use Rattle.machine_proof.specs.Followers.{IsFollower}
use Rattle.machine_proof.specs.LaidOut.{IsImageOfFunction}
use Rattle.machine_proof.specs.Lists.{GiveSitting}

-- k has what a callee leaves as it is in m, which calls it and passes these slots: all registers but the caller-saved ones, and the bytes of the caller's
-- frame from its stack pointer up, but for those slots
pub record KeepsCaller (outgoing : List ℕ) (m k : Machine) : Type 0 where
  pub registers : (r : ℕ) → (Contains caller_saved r → ⊥) → register k r ≡ register m r
  pub frame : (a : ℕ) → in_frame m.entry m.area a ≡ true → register m 2 ≤ a → in_words outgoing (a - register m 2) ≡ false → k.memory a ≡ m.memory a

-- a call that is answered leaves it, if its answer writes no byte of the frame, whatever the callee leaves in what it owns of it
abbrev pub CallsKeepCaller : Type 0
CallsKeepCaller = (image : Image) (m n : Machine) (l : CodeLine) (call : CallSite) (reply : Reply) (rest : List Reply) →
    line_at image.lines m.counter ≡ Some l → call_of (row_of l.instruction) ≡ Some call → m.script ≡ reply ∷ rest →
    writes_frame m.entry m.area reply.writes ≡ false → machine_step image m ≡ Continues n → KeepsCaller call.outgoing m n

-- a place that a callee leaves as it is: a register that isn't caller-saved, a slot of the caller's frame that isn't passed, none of whose eight bytes is in
-- one that is, or a constant
abbrev pub IsKeptPlace : (outgoing : List ℕ) → Place → Type 0
IsKeptPlace outgoing (Register r) = Contains caller_saved r → ⊥
IsKeptPlace outgoing (Slot o) = (j : ℕ) → j < 8 → in_words outgoing (o + j) ≡ false
IsKeptPlace outgoing (Const c) = Unit {0}

-- each such place that the lists name at m's counter for a part of a variable holds in k the value of its newest assignment in the source's state s
abbrev pub HoldsKept : (lists : VarId → (address : ℕ) → Place → Type 0) → (outgoing : List ℕ) (m k : Machine) → State → Type 0
HoldsKept lists outgoing m k s = (v : VarId) (place : Place) → lists v m.counter place → IsKeptPlace outgoing place →
    Tells s v (part_value v (place_content place k))

-- Where the machine waits at a line, a debugger that reads these places in the registers and the memory that a callee keeps finds the source's values,
-- unless the source stops on a frame fault before the line: if the lists name only places that have the value.
abbrev pub SuspendedFramesHold : (lists : VarId → (address : ℕ) → Place → Type 0) → Type 0
SuspendedFramesHold lists = (source f : Function) (resolve fresolve : OperandPair → Option OperandPair) (image : Image) →
    IsFollower source f resolve fresolve → AllItems (λ i. HasPhysical i.kind) f.blocks → reach_of f ≤ MAX_FRAME → (is : IsImageOfFunction f image) →
    GiveSitting (framed_program (framed_of f).blocks fresolve) (IsEntryAt is.layout) lists → (s0 : State) → StartsAt source s0 →
    (m : Machine) (s : State) (since : Since) (l : CodeLine) →
    MachineAlong (program_of true source.blocks resolve) image (machine_start image s0) s0 m s since → line_at image.lines m.counter ≡ Some l →
    (outgoing : List ℕ) (k : Machine) → KeepsCaller outgoing m k →
    ((s' : State) × AlignsWith (program_of true source.blocks resolve) l since s s' × HoldsKept lists outgoing m k s')
    ⊎ FailsBeforeLine (program_of true source.blocks resolve) l since s
