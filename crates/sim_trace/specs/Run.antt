-- The text of a run of the machine semantics on an image: a line for each step that it makes, and how it stops.
use Rattle.std.specs.Prelude.{◌≡◌, ℕ, suc, ◌<◌, ◌≤◌, List, [], ◌++◌, length, codes, Option, Some, None}
use Rattle.rv64_instr.specs.declared.start.CallEvent.{CallEvent}
use Rattle.rv64_instr.specs.declared.start.Start.{Start}
use Rattle.sem_mir.specs.State.{Reply}
use Rattle.sem_machine.specs.Image.{CodeLine, Image, line_at}
use Rattle.sem_machine.specs.Machine.{Machine}
use Rattle.sem_machine.specs.MachineStep.{Continues, machine_step}
use Rattle.emit_code.specs.Laid.{LaidCode}
use Rattle.sim_machine.specs.declared.ending.Stop.{Stop}
use Rattle.sim_machine.specs.Machines.{StartsCode}
use Rattle.sim_machine.specs.Running.{StopsSo}
use Rattle.sim_machine.specs.Shown.{ShowsCode}
use Rattle.sim_proof.specs.Runs.{WereGiven}
use Rattle.sim_trace.specs.declared.variable.Variable.{Variable}
use Rattle.sim_trace.specs.Lines.{step_line, stop_line}

-- the line of a step at a code line; none if no code is at the program counter
abbrev pub line_at_code : (number : ℕ) → Option CodeLine → List Variable → Machine → List ℕ
line_at_code n None variables s = []
line_at_code n (Some l) variables s = step_line n l.origin variables s

-- the line of the next step from a state
abbrev pub line_before : Image → (number : ℕ) → List Variable → Machine → List ℕ
line_before image n variables s = line_at_code n (line_at image.lines s.counter) variables s

-- The machine makes this number of steps from one state to another, and the text is their lines.
pub data Prints (image : Image) (variables : List Variable) (from : Machine) : (steps : ℕ) → Machine → (text : List ℕ) → Type 0 where
  begins : Prints image variables from 0 from []
  goes_on : {n : ℕ} {s t : Machine} {text more : List ℕ} → Prints image variables from n s text → machine_step image s ≡ Continues t →
      more ≡ text ++ line_before image n variables s → Prints image variables from (suc n) t more

-- The text is that of a run of at most `limit` steps: all of them are made, or one of them stops.
pub data IsRunText (image : Image) (variables : List Variable) (limit : ℕ) (from : Machine) (text : List ℕ) : Type 0 where
  makes_steps : {s : Machine} {lines : List ℕ} → Prints image variables from limit s lines → text ≡ lines ++ codes "stop steps\n" →
      IsRunText image variables limit from text
  stops : {n : ℕ} {s : Machine} {lines : List ℕ} (stop : Stop) → n < limit → Prints image variables from n s lines → StopsSo stop image s →
      text ≡ lines ++ line_before image n variables s ++ stop_line (machine_step image s) s → IsRunText image variables limit from text

-- The text is that of a run with these answers, which were given to its calls in order. There are at most `limit` answers.
pub record HasText (gives : CallEvent → Reply → Type 0) (image : Image) (variables : List Variable) (limit : ℕ) (answers : List Reply) (from : Machine)
    (text : List ℕ) : Type 0 where
  pub given : WereGiven gives 1 answers
  pub few : length answers ≤ limit
  pub is : IsRunText image variables limit from text

-- The text is that of the machine's run of the code from its start: on each image of the code, with the answers to its calls first in the script.
pub record IsTextOfRun (gives : CallEvent → Reply → Type 0) (c : LaidCode) (start : Start) (variables : List Variable) (limit : ℕ)
    (text : List ℕ) : Type 0 where
  pub answers : List Reply
  pub has : (image : Image) (s : Machine) (rest : List Reply) → ShowsCode c image → StartsCode c start s → s.script ≡ answers ++ rest →
      HasText gives image variables limit answers s text
