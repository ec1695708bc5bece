-- The interpreter's state, and the states of the definition that it represents.
use Rattle.std.specs.Prelude.{◌≡◌, ◌<◌, ◌^◌, ℕ, List, [], length, All, Option, Some, None, true, slice_index}
use Rattle.std.specs.Map.{lookup}
use Rattle.rv64_instr.specs.Linked.{addresses_in}
use Rattle.rv64_instr.specs.Row.{row_of}
use Rattle.rv64_instr.specs.declared.start.CallResult.{CallResult}
use Rattle.rv64_instr.specs.declared.start.Start.{Start}
use Rattle.mir_func.specs.declared.position.Pos.{Pos}
use Rattle.mir_func.specs.declared.block.Block.{Block}
use Rattle.mir_func.specs.declared.debug_substitution.DebugSubstitution.{DebugSubstitution}
use Rattle.mir_func.specs.declared.item.ItemKind.{ItemKind}
use Rattle.mir_func.specs.declared.item.ItemKind.TheVariants.{Code, Mark, Phi}
use Rattle.mir_func.specs.declared.object.Object.{Object}
use Rattle.mir_func.specs.Objects.{area_of, offset_of}
use Rattle.mir_func.specs.Parts.{Bytes}
use Rattle.sem_mir.specs.State.{Core, State, Reply, content, written, RunResult}
use Rattle.sem_mir.specs.Step as step
use Rattle.sem_mir.specs.Step.{do_item}
use Rattle.mir_func.specs.Graph.{Fetch, Here, EndOfBlock, Outside, below, block_start, program_of, fetch_in, from_block, KindEdge}
use Rattle.sem_mir.specs.InitialState.{first_of}
use Rattle.mir_func.specs.Resolve.{resolve}
use Rattle.mir_substitution.specs.Index.{is_key}
use Rattle.sem_interpreter.specs.declared.machine.InterpreterState.{InterpreterState}
use Rattle.sem_interpreter.specs.declared.machine.Outcome.{Outcome}
use Rattle.sem_interpreter.specs.declared.machine.Outcome.TheVariants.{Falls, Goes, Returns as Ended, Faults, Waits}
use Rattle.sem_interpreter.specs.Places.{starting_registers}
use Rattle.sem_interpreter.specs.Acts.{MachineHolds, IsAnswered}
use Rattle.sem_interpreter.specs.Assigned.{MarksHold}

-- the interpreter's state: the position, the machine that code reads and writes, the last value of each pair, and for each variable, by
-- its node and the node that it is inlined at, the assignments to its parts
pub record Concrete : Type 0 where
  pub pos : Pos
  pub machine : InterpreterState
  pub pairs : List ((ℕ × ℕ) × Option ℕ)
  pub assigned : List ((ℕ × Option ℕ) × List (Option Bytes × Option ℕ))

-- the value of an entry, if there is one
abbrev pub flat : Option (Option ℕ) → Option ℕ
flat None = None
flat (Some o) = o

-- each pair's last value is that of the entries
abbrev pub PairsHold : List ((ℕ × ℕ) × Option ℕ) → (ℕ → ℕ → Option ℕ) → Type 0
PairsHold es held = (k o : ℕ) → held k o ≡ flat (lookup (is_key (k, o)) es)

-- the core is the one represented, with any script and any events
pub record Holds (c : Concrete) (s : Core) : Type 0 where
  pub machine : MachineHolds c.machine s
  pub pairs : PairsHold c.pairs s.pairs
  pub marks : MarksHold c.assigned s.marks

-- the state is the one represented
pub record StandsFor (c : Concrete) (s : State) : Type 0 where
  pub pos : s.pos ≡ c.pos
  pub core : Holds c s.core

-- a start state of the function, with these registers and this memory. The script and the events are arbitrary
pub record Starts (stack : List Object) (blocks : List Block) (start : Start) (s : State) : Type 0 where
  pub pos : s.pos ≡ block_start (first_of blocks)
  pub entry : s.core.entry ≡ slice_index start.regs 2
  pub area : s.core.area ≡ area_of stack
  pub objects : (n : ℕ) → s.core.objects n ≡ offset_of stack n
  pub symbols : s.core.symbols ≡ addresses_in start.symbols
  pub registers : (r : ℕ) → content s.core.regs r ≡ content (starting_registers start.regs) r
  pub slots : (n : ℕ) → s.core.slots n ≡ None
  pub memory : (a : ℕ) → s.core.memory a ≡ written (λ _. 0) start.memory a
  pub pairs : (k o : ℕ) → s.core.pairs k o ≡ None
  pub marks : s.core.marks ≡ []

-- at a call the script agrees with the answer that is passed in. At any other item it is arbitrary
abbrev pub IsItemAnswered : ItemKind → Option CallResult → List Reply → Type 0
IsItemAnswered (Code i k) answer script = IsAnswered (row_of i) answer script
IsItemAnswered (Mark v m) answer script = Unit {0}
IsItemAnswered (Phi p k) answer script = Unit {0}

-- the same for what is at a position: at a block's end the script is arbitrary
abbrev pub IsStepAnswered : Fetch → Option CallResult → List Reply → Type 0
IsStepAnswered (Here i) answer script = IsItemAnswered i.kind answer script
IsStepAnswered (EndOfBlock k n) answer script = Unit {0}
IsStepAnswered Outside answer script = Unit {0}

-- the outcome is the definition's, and the new state represents its core
abbrev pub EndsItem : Outcome → Concrete → step.Outcome → Type 0
EndsItem Falls now x = (c : Core) × (x ≡ step.Falls c) × Holds now c
EndsItem (Goes n) now x = (c : Core) × (x ≡ step.Goes n c) × Holds now c
EndsItem Ended now x = (result : RunResult) × (x ≡ step.Gives result)
EndsItem Faults now x = x ≡ step.Traps
EndsItem Waits now x = x ≡ step.Asks

-- an outcome that ends the run, faults or waits changes nothing
abbrev pub StaysAll : Outcome → Concrete → Concrete → Type 0
StaysAll Falls old new = Unit {0}
StaysAll (Goes n) old new = Unit {0}
StaysAll Ended old new = new ≡ old
StaysAll Faults old new = new ≡ old
StaysAll Waits old new = new ≡ old

-- if the item goes on, it does so along an edge, from every position
abbrev pub ItemLeads : ItemKind → Outcome → Type 0
ItemLeads kind Falls = (p : Pos) → KindEdge (λ n. n) kind p (below p)
ItemLeads kind (Goes n) = (p : Pos) → KindEdge (λ n. n) kind p (block_start n)
ItemLeads kind Ended = Unit {0}
ItemLeads kind Faults = Unit {0}
ItemLeads kind Waits = Unit {0}

-- the item takes the interpreter from the old state to the new one, with this outcome, as the definition does
pub record DoesItem (subs : List DebugSubstitution) (kind : ItemKind) (answer : Option CallResult) (o : Outcome) (old new : Concrete) : Type 0 where
  pub ends : (s : Core) → Holds old s → IsItemAnswered kind answer s.script → EndsItem o new (do_item (program_of true [] (resolve subs)) kind s)
  pub stays : StaysAll o old new
  pub leads : ItemLeads kind o
  pub pos : new.pos ≡ old.pos

-- a position of the function, other than the last block's end
abbrev pub IsPosition : List Block → Pos → Type 0
IsPosition blocks p = fetch_in (from_block blocks p.block) p.item ≡ Outside → ⊥

-- each block has fewer items than a position can count. In a function that was read this is so: `source_end`, of 32 bits, is their number
abbrev pub AreCounted : List Block → Type 0
AreCounted blocks = All (λ b. length b.items < 2 ^ 32) blocks
