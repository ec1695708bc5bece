-- The lines of a run as the code appends them.
use Rattle.std.specs.Prelude.{◌≡◌, ℕ, suc, ◌<◌, List, [], ◌++◌, codes, Option, Some, None}
use Rattle.rv64_instr.specs.declared.decoded.Way.{Way}
use Rattle.rv64_instr.specs.declared.decoded.Way.TheVariants.{Back, Tail, Never}
use Rattle.rv64_instr.specs.declared.start.CallEvent.{CallEvent}
use Rattle.rv64_instr.specs.declared.start.CallTarget.{CallTarget}
use Rattle.rv64_instr.specs.Row.{Callee, Way as LeavingWay}
use Rattle.sem_mir.specs.State.{Reply}
use Rattle.sem_machine.specs.Image.{Image}
use Rattle.sem_machine.specs.Machine.{Machine}
use Rattle.sem_machine.specs.MachineStep.{machine_step}
use Rattle.emit_code.specs.declared.code.EncodedInstruction.{EncodedInstruction}
use Rattle.emit_code.specs.Laid.{LaidCode}
use Rattle.sim_machine.specs.declared.ending.Stepped.{Stepped}
use Rattle.sim_machine.specs.declared.ending.Stepped.TheVariants.{Went, Stopped}
use Rattle.sim_machine.specs.declared.ending.Stop.{Stop}
use Rattle.sim_machine.specs.declared.hart.Hart.{Hart}
use Rattle.sim_machine.specs.Departures.{way_target}
use Rattle.sim_machine.specs.Kept.{StandsFor}
use Rattle.sim_machine.specs.Running.{StepsOn, CallsOn, StaysIf, StopsSo}
use Rattle.sim_machine.specs.Shown.{ShowsCode, entry_at}
use Rattle.sim_trace.specs.declared.variable.Variable.{Variable}
use Rattle.sim_trace.specs.Lines.{step_line, stop_line}

-- the line of a step at an entry; none if no entry begins at the program counter
abbrev pub line_at_entry : (number : ℕ) → Option EncodedInstruction → List Variable → Machine → List ℕ
line_at_entry n None variables s = []
line_at_entry n (Some e) variables s = step_line n e.origin variables s

-- The line of a step is appended. It is the same for each machine state that the simulator state represents.
abbrev pub IsLineAdded : (number : ℕ) → Option EncodedInstruction → List Variable → Hart → (text more : List ℕ) → Type 0
IsLineAdded n e variables h text more = (s : Machine) → StandsFor h s → more ≡ text ++ line_at_entry n e variables s

-- a step, with its line before it
pub record IsPrintedStep (gives : CallEvent → Reply → Type 0) (c : LaidCode) (variables : List Variable) (n : ℕ) (r : Stepped) (old new : Hart)
    (text more : List ℕ) : Type 0 where
  pub line : IsLineAdded n (entry_at c.entries old.counter) variables old text more
  pub step : StepsOn c r old new
  pub call : CallsOn gives c r old new
  pub stays : StaysIf r old new

-- the steps so far, with their lines
pub data Printed (gives : CallEvent → Reply → Type 0) (c : LaidCode) (variables : List Variable) (from : Hart) :
    (steps : ℕ) → Hart → (text : List ℕ) → Type 0 where
  begins : Printed gives c variables from 0 from []
  goes_on : {n : ℕ} {h now : Hart} {text more : List ℕ} → Printed gives c variables from n h text →
      IsPrintedStep gives c variables n Went h now text more → Printed gives c variables from (suc n) now more

-- The line of a stop is appended, on each image of the code.
abbrev pub IsStopAdded : LaidCode → Stop → Hart → (text more : List ℕ) → Type 0
IsStopAdded c stop h text more = (image : Image) (s : Machine) → ShowsCode c image → StandsFor h s → StopsSo stop image s →
    more ≡ text ++ stop_line (machine_step image s) s

-- this is what control leaves for on a way, if it leaves for a callee
abbrev pub IsFor : Machine → Option CallTarget → Way → LeavingWay Callee → Type 0
IsFor s target Back w = Unit {0}
IsFor s target (Tail callee) w = target ≡ way_target s w
IsFor s target (Never callee) w = target ≡ way_target s w

-- a run of at most `limit` steps, with all its lines
pub data IsRunPrinted (gives : CallEvent → Reply → Type 0) (c : LaidCode) (variables : List Variable) (limit : ℕ) (from : Hart) (text : List ℕ) : Type 0 where
  made_steps : {h : Hart} {lines : List ℕ} → Printed gives c variables from limit h lines → text ≡ lines ++ codes "stop steps\n" →
      IsRunPrinted gives c variables limit from text
  stopped : {n : ℕ} {h now : Hart} {lines more : List ℕ} (stop : Stop) → n < limit → Printed gives c variables from n h lines →
      IsPrintedStep gives c variables n (Stopped stop) h now lines more → IsStopAdded c stop now more text → IsRunPrinted gives c variables limit from text
