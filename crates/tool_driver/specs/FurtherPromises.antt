-- Further guarantees for an output, beside the main theorem and exact location lists: callee-saved registers, stops of the machine, call frame information,
-- and location lists that aren't empty while a location keeps the value of a debug value.
use Rattle.std.specs.Prelude.{◌≡◌, ◌⊎◌, ℕ, true, List, [], Option, Some, IfSome, All}
use Rattle.rv64_instr.specs.declared.place.Place.{Place}
use Rattle.rv64_instr.specs.Row.{way_leads_back}
use Rattle.mir_func.specs.declared.debug_substitution.OperandPair.{OperandPair}
use Rattle.mir_func.specs.declared.position.Pos.{Pos}
use Rattle.mir_func.specs.declared.variable.VarId.{VarId}
use Rattle.mir_func.specs.Function.{Function}
use Rattle.mir_func.specs.Graph.{program_of}
use Rattle.mir_func.specs.Resolve.{resolve}
use Rattle.sem_mir.specs.Align.{Since}
use Rattle.sem_mir.specs.State.{State, RunResult}
use Rattle.sem_mir.specs.PreferredLocation.{IsPlace}
use Rattle.sem_machine.specs.Headline.{FailsBeforeLine, KEPT, MachineAlong, StartsAt}
use Rattle.sem_machine.specs.Image.{CodeLine, Image, line_at}
use Rattle.sem_machine.specs.Machine.{Machine, machine_start, register}
use Rattle.sem_machine.specs.MachineStep.{Comes, Ends, IsWell, machine_step}
use Rattle.listing_text.specs.declared.output.ListedFunction.{ListedFunction}
use Rattle.listing_text.specs.declared.output.Output.{Output}
use Rattle.value_proof.specs.Kept.{IsToldAndKept}
use Rattle.frame_theorem.specs.compile_theorem.OutputProperties.{Gives}
use Rattle.frame_theorem.specs.compile_theorem.Source.{SourceFunction, OfEach}
use Rattle.object_command.specs.listing_meaning.Program.{IsListedAt, image_of, program_shown}
use Rattle.frame_theorem.specs.Unwinding.{AllUnwind}

-- from every start, for every script of call answers and every number of steps: if the machine on a function's image ends on a way that leads back to
-- the caller, then the return address, the stack pointer and the callee-saved registers have the same values as at the start, unless the source stops on
-- a frame fault before
abbrev pub GivesBack : Function → (OperandPair → Option OperandPair) → Image → Type 0
GivesBack source resolved image = (s0 : State) → StartsAt source s0 → (m : Machine) (s : State) (since : Since) (l : CodeLine) →
    MachineAlong (program_of true source.blocks resolved) image (machine_start image s0) s0 m s since → line_at image.lines m.counter ≡ Some l →
    (result : RunResult) → machine_step image m ≡ Ends result → way_leads_back result.way ≡ true →
    All (λ r. register m r ≡ register (machine_start image s0) r) KEPT ⊎ FailsBeforeLine (program_of true source.blocks resolved) l since s

-- from every start, the machine on a function's image stops only where the function ends, or where it waits for the answer of a call
abbrev pub StopsWell : Function → Image → Type 0
StopsWell source image = (s0 : State) → StartsAt source s0 → (m : Machine) → Comes image (machine_start image s0) m → IsWell (machine_step image m)

-- this holds for each source function and its listing
abbrev pub AllGiveBack : List SourceFunction → Output → Type 0
AllGiveBack sources o = OfEach (λ s f. GivesBack s.function (resolve s.substitutions) (image_of o f)) sources o.functions

-- no function's execution leaves its code or reaches a word that is no instruction
abbrev pub AllStopWell : List SourceFunction → Output → Type 0
AllStopWell sources o = OfEach (λ s f. StopsWell s.function (image_of o f)) sources o.functions

-- `.debug_frame`, if there is one, unwinds in each function: from every start, at each line that the machine comes to, the section has rules, by which the
-- stack pointer, the return address and the callee-saved registers have their values at the start, unless the source stops on a frame fault before. No
-- register is undefined in it
abbrev pub FramesUnwind : List SourceFunction → Output → Type 0
FramesUnwind sources o = IfSome o.frame (λ section. AllUnwind [] section sources o)

-- A debug value of the listed function has its value in a location, and on the straight path from there down to position `q` of the block nothing
-- overwrites the location and no debug value has an overlapping part: then at each address of `q` the section doesn't leave that part without a location.
abbrev pub ListsKept : Output → ListedFunction → Type 0
ListsKept o f = (v : VarId) (place : Place) (p q : Pos) (address : ℕ) → IsPlace place → IsToldAndKept (program_shown f) 0 v place p q →
    IsListedAt f address q → ((given : Place) → Gives o f v address given → ⊥) → ⊥

-- this holds for each function
abbrev pub AllListKept : Output → Type 0
AllListKept o = All (ListsKept o) o.functions
