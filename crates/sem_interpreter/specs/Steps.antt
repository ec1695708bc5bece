-- The interpreter's steps, as steps of the definition.
use Rattle.std.specs.Prelude.{◌≡◌, List, [], Option, true}
use Rattle.rv64_instr.specs.declared.start.CallResult.{CallResult}
use Rattle.mir_func.specs.declared.block.Block.{Block}
use Rattle.mir_func.specs.declared.debug_substitution.DebugSubstitution.{DebugSubstitution}
use Rattle.sem_mir.specs.State.{Event, Reply, State, RunResult}
use Rattle.sem_mir.specs.Step as step
use Rattle.sem_mir.specs.Step.{Next, do_fetch, moved}
use Rattle.mir_func.specs.Graph.{Program, program_of, FetchEdge, Fetch, below, block_start}
use Rattle.mir_func.specs.Resolve.{resolve}
use Rattle.sem_interpreter.specs.declared.state.SourceStep.{SourceStep}
use Rattle.sem_interpreter.specs.declared.state.SourceStep.TheVariants.{Went, Returned, Faulted, Waits}
use Rattle.mir_func.specs.declared.position.Pos.{Pos}
use Rattle.sem_interpreter.specs.declared.machine.Outcome.{Outcome}
use Rattle.sem_interpreter.specs.declared.machine.Outcome.TheVariants.{Falls, Goes, Returns as Ended, Faults, Waits as Waiting}
use Rattle.sem_interpreter.specs.StandsFor.{Concrete, StandsFor, IsStepAnswered}

-- the result of the step is the definition's, and the new state represents its state
abbrev pub IsStep : SourceStep → Concrete → Next → Type 0
IsStep Went now n = (t : State) × (n ≡ step.Went t) × StandsFor now t
IsStep Returned now n = (result : RunResult) × (n ≡ step.Returned result)
IsStep Faulted now n = n ≡ step.Faulted
IsStep Waits now n = n ≡ step.Waits

-- the function as a source program, whose debug items see the content of x2
abbrev pub source_of : List Block → List DebugSubstitution → Program
source_of blocks subs = program_of true blocks (resolve subs)

-- from each state that `old` represents, with a script that agrees with the answer at a call, a step of the source has
-- this result
abbrev pub Steps : Program → Option CallResult → SourceStep → Concrete → Concrete → Type 0
Steps g answer r old new = (s : State) → StandsFor old s → IsStepAnswered (g.fetch s.pos) answer s.core.script → IsStep r new (step.step g s)

-- a step that doesn't go on changes nothing
abbrev pub ChangesOnlyByGoing : SourceStep → Concrete → Concrete → Type 0
ChangesOnlyByGoing Went old new = Unit {0}
ChangesOnlyByGoing Returned old new = new ≡ old
ChangesOnlyByGoing Faulted old new = new ≡ old
ChangesOnlyByGoing Waits old new = new ≡ old

-- the same by what is at the position
abbrev pub StepsFrom : Fetch → List DebugSubstitution → Option CallResult → SourceStep → Concrete → Concrete → Type 0
StepsFrom here subs answer r old new = (s : State) → StandsFor old s → IsStepAnswered here answer s.core.script →
    IsStep r new (moved (λ n. n) s.pos (do_fetch (source_of [] subs) here s.core))

-- the position after a step: along an edge if it went on, else the same
abbrev pub GoesAlong : Fetch → SourceStep → Pos → Pos → Type 0
GoesAlong here Went p q = FetchEdge (λ n. n) here p q
GoesAlong here Returned p q = q ≡ p
GoesAlong here Faulted p q = q ≡ p
GoesAlong here Waits p q = q ≡ p

-- the result of a step by its outcome
abbrev pub step_after : Outcome → SourceStep
step_after Falls = Went
step_after (Goes n) = Went
step_after Ended = Returned
step_after Faults = Faulted
step_after Waiting = Waits

-- the position after an outcome: below, at a block's start, or the same
abbrev pub position_after : Outcome → Pos → Pos
position_after Falls p = below p
position_after (Goes n) p = block_start n
position_after Ended p = p
position_after Faults p = p
position_after Waiting p = p

-- the interpreter's state represents one with this script and these events
pub record IsState (c : Concrete) (script : List Reply) (events : List Event) : Type 0 where
  pub state : State
  pub stands : StandsFor c state
  pub same_script : state.core.script ≡ script
  pub same_events : state.core.events ≡ events

-- after a step that returned and changed nothing, each later step returns too, whatever answer it gets
abbrev pub ReturnsAgain : Type 0
ReturnsAgain = (g : Program) (answer other : Option CallResult) (r : SourceStep) (kept new : Concrete) →
    ((script : List Reply) (events : List Event) → IsState kept script events) →
    Steps g answer Returned kept kept → Steps g other r kept new → r ≡ Returned
