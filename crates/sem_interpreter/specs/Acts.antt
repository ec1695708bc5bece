-- The effect of an instruction on the interpreter's machine.
use Rattle.std.specs.Prelude.{◌≡◌, ℕ, List, [], ◌∷◌, Option, Some, None, true, false, slice_index}
use Rattle.rv64_instr.specs.DefsAndUses.{input_reads, base_reads}
use Rattle.rv64_instr.specs.Row.{Row, Calls}
use Rattle.rv64_instr.specs.Row as row
use Rattle.rv64_instr.specs.declared.symbol.LinkedAddress.{LinkedAddress}
use Rattle.rv64_instr.specs.declared.decoded.Base.{Base}
use Rattle.rv64_instr.specs.declared.decoded.Input.{Input}
use Rattle.rv64_instr.specs.Decoded.{ShowsInput, ShowsBase}
use Rattle.rv64_instr.specs.Linked.{addresses_in}
use Rattle.rv64_instr.specs.LocationEffects.{part_address, input_part, base_part}
use Rattle.rv64_instr.specs.declared.start.CallResult.{CallResult}
use Rattle.rv64_instr.specs.declared.start.Start.{Start}
use Rattle.rv64_instr.specs.declared.start.CallTarget.{CallTarget}
use Rattle.mir_func.specs.declared.object.Object.{Object}
use Rattle.mir_func.specs.declared.position.Pos.{Pos}
use Rattle.mir_func.specs.Objects.{area_of, offset_of}
use Rattle.sem_mir.specs.State.{Core, Reply, written, RunResult}
use Rattle.sem_mir.specs.Step as step
use Rattle.sem_mir.specs.Step.{act, address_at, exec_external_call, are_written, input_value}
use Rattle.mir_func.specs.Graph.{below, block_start, RowEdge}
use Rattle.sem_interpreter.specs.declared.machine.InterpreterState.{InterpreterState}
use Rattle.sem_interpreter.specs.declared.machine.Outcome.{Outcome}
use Rattle.sem_interpreter.specs.declared.machine.Outcome.TheVariants.{Falls, Goes, Returns as Ended, Faults, Waits}
use Rattle.sem_interpreter.specs.Memory.{MemoryHolds, some_writes}
use Rattle.sem_interpreter.specs.Places.{ObjectsHold, RegistersHold, SlotsHold, starting_registers}

-- the core has the stack objects, registers, slots and memory of the interpreter's machine
pub record MachineHolds (m : InterpreterState) (s : Core) : Type 0 where
  pub entry : s.entry ≡ m.entry
  pub area : s.area ≡ m.area
  pub objects : ObjectsHold m.objects s.objects
  pub symbols : s.symbols ≡ addresses_in m.symbols
  pub registers : RegistersHold m.registers s.regs
  pub slots : SlotsHold m.slots s.slots
  pub memory : MemoryHolds m.memory s.memory

-- the interpreter's machine at the start of a run of a function with these stack objects
pub record StartsMachine (stack : List Object) (start : Start) (m : InterpreterState) : Type 0 where
  pub entry : m.entry ≡ slice_index start.regs 2
  pub area : m.area ≡ area_of stack
  pub objects : ObjectsHold m.objects (offset_of stack)
  pub symbols : m.symbols ≡ start.symbols
  pub registers : RegistersHold m.registers (starting_registers start.regs)
  pub slots : m.slots ≡ []
  pub memory : MemoryHolds m.memory (written (λ _. 0) start.memory)

-- the reply of the definitions for an answer
abbrev pub reply_of : CallResult → Reply
reply_of a = record { regs = a.regs; writes = some_writes a.writes; below = [] }

-- the script's next reply is that of this answer, or there is none
abbrev pub IsNext : Option CallResult → List Reply → Type 0
IsNext None script = script ≡ []
IsNext (Some a) script = (rest : List Reply) × (script ≡ reply_of a ∷ rest)

-- at a call the script agrees with the answer that is passed in. At other code it is arbitrary
abbrev pub IsAnswered : Row → Option CallResult → List Reply → Type 0
IsAnswered (Calls call) answer script = IsNext answer script
IsAnswered _ answer script = Unit {0}

-- the core c has the machine `now`, and the pairs and assignments of the core s
pub record Moved (now : InterpreterState) (s c : Core) : Type 0 where
  pub machine : MachineHolds now c
  pub pairs : c.pairs ≡ s.pairs
  pub marks : c.marks ≡ s.marks

-- the outcome is the definition's, and its core has the machine `now`
abbrev pub EndsSo : Outcome → InterpreterState → Core → step.Outcome → Type 0
EndsSo Falls now s x = (c : Core) × (x ≡ step.Falls c) × Moved now s c
EndsSo (Goes n) now s x = (c : Core) × (x ≡ step.Goes n c) × Moved now s c
EndsSo Ended now s x = (result : RunResult) × (x ≡ step.Gives result)
EndsSo Faults now s x = x ≡ step.Traps
EndsSo Waits now s x = x ≡ step.Asks

-- an outcome that ends the run, faults or waits changes nothing
abbrev pub Stays : Outcome → InterpreterState → InterpreterState → Type 0
Stays Falls old new = Unit {0}
Stays (Goes n) old new = Unit {0}
Stays Ended old new = new ≡ old
Stays Faults old new = new ≡ old
Stays Waits old new = new ≡ old

-- if code of this row goes on, it does so along one of the row's edges, from every position
abbrev pub Leads : Row → Outcome → Type 0
Leads r Falls = (p : Pos) → RowEdge (λ n. n) r p (below p)
Leads r (Goes n) = (p : Pos) → RowEdge (λ n. n) r p (block_start n)
Leads r Ended = Unit {0}
Leads r Faults = Unit {0}
Leads r Waits = Unit {0}

-- the outcome goes to no block
abbrev pub GoesNowhere : Outcome → Type 0
GoesNowhere (Goes n) = ⊥
GoesNowhere _ = Unit {0}

-- code of this row takes the machine from old to new, with this outcome, as the definition does
pub record Acts (r : Row) (answer : Option CallResult) (o : Outcome) (old new : InterpreterState) : Type 0 where
  pub ends : (s : Core) → MachineHolds old s → IsAnswered r answer s.script → EndsSo o new s (act r s)
  pub stays : Stays o old new
  pub leads : Leads r o

-- the same for a part of what code of a row does
pub record Does (f : Core → step.Outcome) (o : Outcome) (old new : InterpreterState) : Type 0 where
  pub ends : (s : Core) → MachineHolds old s → EndsSo o new s (f s)
  pub stays : Stays o old new
  pub leads : GoesNowhere o

-- the same for a call that passes these slots, with this answer
pub record Takes (outgoing : List ℕ) (a : CallResult) (o : Outcome) (old new : InterpreterState) : Type 0 where
  pub ends : (target : CallTarget) (args : List ℕ) (rest : List Reply) (s : Core) → MachineHolds old s →
      EndsSo o new s (exec_external_call target args outgoing s (reply_of a ∷ rest))
  pub stays : Stays o old new
  pub leads : GoesNowhere o

-- x is the input that was decoded as b, with this address if it is a half of one
abbrev pub IsInput : Input → Option LinkedAddress → row.Input → Type 0
IsInput b address x = ShowsInput b x × (part_address (input_part x) ≡ address)

-- x is the base that was decoded as b, likewise
abbrev pub IsBase : Base → Option LinkedAddress → row.Base → Type 0
IsBase b address x = ShowsBase b x × (part_address (base_part x) ≡ address)

-- the value of an input, or none if it reads an unwritten register
abbrev pub InputHolds : Core → row.Input → Option ℕ → Type 0
InputHolds s b (Some v) = (are_written s (input_reads b) ≡ true) × (input_value s b ≡ v)
InputHolds s b None = are_written s (input_reads b) ≡ false

-- the address of an access, or none if it reads an unwritten register
abbrev pub AddressHolds : Core → row.Base → (offset : ℕ) → Option ℕ → Type 0
AddressHolds s base offset (Some a) = (are_written s (base_reads base) ≡ true) × (address_at s base offset ≡ a)
AddressHolds s base offset None = are_written s (base_reads base) ≡ false
