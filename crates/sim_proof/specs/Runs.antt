-- Runs of the simulator, and the runs of the machine semantics that they are.
use Rattle.std.specs.Prelude.{◌≡◌, ℕ, suc, ◌+◌, ◌%◌, ◌^◌, ◌≤◌, List, [], ◌∷◌, ◌++◌, length}
use Rattle.rv64_instr.specs.declared.start.CallEvent.{CallEvent}
use Rattle.sem_mir.specs.State.{Reply}
use Rattle.sem_machine.specs.Image.{Image}
use Rattle.sem_machine.specs.Machine.{Machine}
use Rattle.sem_machine.specs.MachineStep.{Comes, Continues, machine_step}
use Rattle.emit_code.specs.Laid.{LaidCode}
use Rattle.sim_machine.specs.declared.ending.Stepped.TheVariants.{Went}
use Rattle.sim_machine.specs.declared.hart.Hart.{Hart}
use Rattle.sim_machine.specs.Kept.{StandsFor, calls_in}
use Rattle.sim_machine.specs.Running.{StepsOn, CallsOn}
use Rattle.sim_machine.specs.Shown.{ShowsCode}

-- the simulator comes from one state to another by steps that continue
pub data Runs (gives : CallEvent → Reply → Type 0) (c : LaidCode) (from : Hart) : Hart → Type 0 where
  begins : Runs gives c from from
  goes_on : {h now : Hart} → Runs gives c from h → StepsOn c Went h now → CallsOn gives c Went h now → Runs gives c from now

-- the answer was given to the call with this number, modulo 2^64
pub record WasGiven (gives : CallEvent → Reply → Type 0) (number : ℕ) (r : Reply) : Type 0 where
  pub call : CallEvent
  pub numbered : call.number ≡ number % 2 ^ 64
  pub given : gives call r

-- the answers were given to consecutive calls, the first of which has this number
abbrev pub WereGiven : (gives : CallEvent → Reply → Type 0) → (number : ℕ) → List Reply → Type 0
WereGiven gives n [] = Unit {0}
WereGiven gives n (r ∷ rest) = WasGiven gives n r × WereGiven gives (suc n) rest

-- the number of the next call; calls are numbered from 1
abbrev pub next_call : Machine → ℕ
next_call s = suc (calls_in s.events)

-- With the answers `taken` first in its script, the next machine step from s goes to a state that the simulator state `now` represents, and leaves
-- the rest of the script. The answers that are taken were given to the next calls.
pub record GoesTo (gives : CallEvent → Reply → Type 0) (image : Image) (taken rest : List Reply) (now : Hart) (s : Machine) : Type 0 where
  pub to : Machine
  pub goes : machine_step image s ≡ Continues to
  pub stands : StandsFor now to
  pub left : to.script ≡ rest
  pub given : WereGiven gives (next_call s) taken
  pub counted : next_call to ≡ next_call s + length taken

-- From each machine state that h represents, on each image of the code, with these answers first in the script, the machine steps to a state that
-- `now` represents.
abbrev pub StepLeads : (gives : CallEvent → Reply → Type 0) → LaidCode → (h now : Hart) → List Reply → Type 0
StepLeads gives c h now taken = (image : Image) (s : Machine) (rest : List Reply) → ShowsCode c image → StandsFor h s → s.script ≡ taken ++ rest →
    GoesTo gives image taken rest now s

-- The machine comes from s to a state that `now` represents, and leaves the rest of its script. The answers that it took were given to its calls, in
-- order.
pub record ComesTo (gives : CallEvent → Reply → Type 0) (image : Image) (answers rest : List Reply) (now : Hart) (s : Machine) : Type 0 where
  pub to : Machine
  pub comes : Comes image s to
  pub stands : StandsFor now to
  pub left : to.script ≡ rest
  pub given : WereGiven gives (next_call s) answers
  pub counted : next_call to ≡ next_call s + length answers

-- With these answers first in its script, on each image of the code, the machine comes from each state that `from` represents to a state that `now`
-- represents.
abbrev pub AnswersLead : (gives : CallEvent → Reply → Type 0) → LaidCode → (from now : Hart) → List Reply → Type 0
AnswersLead gives c from now answers = (image : Image) (s : Machine) (rest : List Reply) → ShowsCode c image → StandsFor from s → s.script ≡ answers ++ rest →
    ComesTo gives image answers rest now s

-- A step of the simulator that continues is a step of the machine semantics on each image of the code, which takes at most one answer, that of a
-- call.
abbrev pub StepsAreTheMachines : (gives : CallEvent → Reply → Type 0) → Type 0
StepsAreTheMachines gives = (c : LaidCode) (h now : Hart) → StepsOn c Went h now → CallsOn gives c Went h now →
    (taken : List Reply) × StepLeads gives c h now taken × (length taken ≤ 1)

-- A run of the simulator is a run of the machine semantics on each image of the code, with the answers to its calls as the script.
abbrev pub RunsAreTheMachines : (gives : CallEvent → Reply → Type 0) → Type 0
RunsAreTheMachines gives = (c : LaidCode) (from now : Hart) → Runs gives c from now → (answers : List Reply) × AnswersLead gives c from now answers
