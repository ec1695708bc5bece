-- How a step of the simulator ends, in terms of the machine semantics.
use Rattle.std.specs.Prelude.{◌≡◌, ℕ, List, ◌∷◌, Option, Some, None, false}
use Rattle.rv64_instr.specs.declared.decoded.Way.{Way}
use Rattle.rv64_instr.specs.declared.decoded.Way.TheVariants.{Back, Tail, Never}
use Rattle.rv64_instr.specs.Decoded.{ShowsWay}
use Rattle.rv64_instr.specs.declared.start.CallEvent.{CallEvent}
use Rattle.rv64_instr.specs.Row.{CallSite, Callee, Ending, row_of}
use Rattle.sem_mir.specs.State.{Reply, writes_frame}
use Rattle.sem_machine.specs.Image.{CodeLine, Image, line_at, word_at}
use Rattle.sem_machine.specs.Machine.{Machine}
use Rattle.sem_machine.specs.MachineStep as step
use Rattle.sem_machine.specs.MachineStep.{machine_step, left_by, Ends, Leaves, result_at}
use Rattle.emit_code.specs.declared.code.EncodedInstruction.{EncodedInstruction}
use Rattle.emit_code.specs.Laid.{LaidCode}
use Rattle.mir_func.specs.Function.{FramedFunction}
use Rattle.sim_machine.specs.declared.hart.Hart.{Hart}
use Rattle.sim_machine.specs.declared.ending.Stepped.{Stepped}
use Rattle.sim_machine.specs.declared.ending.Stepped.TheVariants.{Went, Stopped}
use Rattle.sim_machine.specs.declared.ending.Stop.{Stop}
use Rattle.sim_machine.specs.declared.ending.Stop.TheVariants.{Ended, Left, BadWord}
use Rattle.sim_machine.specs.Kept.{StandsFor, Goes}
use Rattle.sim_machine.specs.Calls.{event_of}
use Rattle.sim_machine.specs.Shown.{ShowsCode, entry_at, entry_call}

-- how control leaves the function for a callee at a line, if it does
abbrev pub line_left : Option CodeLine → Option (Ending Callee)
line_left None = None
line_left (Some l) = left_by (row_of l.instruction)

-- where the run ends on this way for a callee, this ending stands there
abbrev pub StandsThere : (left : Option (Ending Callee)) → Ending Callee → Way → Type 0
StandsThere left ending Back = Unit {0}
StandsThere left ending (Tail callee) = left ≡ Some ending
StandsThere left ending (Never callee) = left ≡ Some ending

-- A step from s stops for this reason: the run ends on this way, no code line is at the program counter, or the word there is this one, which encodes no
-- machine operation or doesn't go to the line's callee.
abbrev pub StopsSo : Stop → Image → Machine → Type 0
StopsSo (Ended way) image s = (ending : Ending Callee) × (machine_step image s ≡ Ends (result_at s ending)) × ShowsWay way ending.way
    × StandsThere (line_left (line_at image.lines s.counter)) ending way
StopsSo Left image s = machine_step image s ≡ Leaves
StopsSo (BadWord w) image s = (machine_step image s ≡ step.BadWord) × (word_at image.text s.counter ≡ Some w)

-- A step from s stops for this reason, or it continues to a state that the simulator state `now` represents.
abbrev pub EndsSo : Stepped → Hart → Image → Machine → Type 0
EndsSo Went now image s = Goes (machine_step image s) now
EndsSo (Stopped stop) now image s = StopsSo stop image s

-- a step that stops changes nothing
abbrev pub StaysIf : Stepped → Hart → Hart → Type 0
StaysIf Went old new = Unit {0}
StaysIf (Stopped stop) old new = new ≡ old

-- the call of an entry, if it is a call site
abbrev pub found_call : FramedFunction → Option EncodedInstruction → Option CallSite
found_call f None = None
found_call f (Some e) = entry_call f e

-- the callee and the argument registers of the call site at the address, if there is one
abbrev pub call_at : LaidCode → (address : ℕ) → Option CallSite
call_at c a = found_call c.framed (entry_at c.entries a)

-- From each machine state that `old` represents, except at a call site, and on each image of the code, a step ends with this result and simulator
-- state.
abbrev pub StepsOn : LaidCode → Stepped → (old new : Hart) → Type 0
StepsOn c r old new = (image : Image) (s : Machine) → ShowsCode c image → StandsFor old s → call_at c s.counter ≡ None → EndsSo r new image s

-- The answer is one that may be given to the call, and writes no byte of the frame. With it as the first in the script, the machine continues to a
-- state that `new` represents.
pub record IsAnswered (gives : CallEvent → Reply → Type 0) (reply : Reply) (site : CallSite) (new : Hart) (image : Image) (s : Machine) : Type 0 where
  pub given : gives (event_of site s) reply
  pub apart : writes_frame s.entry s.area reply.writes ≡ false
  pub goes : (rest : List Reply) → s.script ≡ reply ∷ rest → Goes (machine_step image s) new

-- A step at a call site continues with this answer, or stops for this reason.
abbrev pub AnswersSo : (gives : CallEvent → Reply → Type 0) → Reply → CallSite → Stepped → Hart → Image → Machine → Type 0
AnswersSo gives reply site Went new image s = IsAnswered gives reply site new image s
AnswersSo gives reply site (Stopped stop) new image s = StopsSo stop image s

-- From each machine state at a call site that `old` represents, and on each image of the code, a step continues with one and the same answer, or stops.
pub record CallsOn (gives : CallEvent → Reply → Type 0) (c : LaidCode) (r : Stepped) (old new : Hart) : Type 0 where
  pub reply : Reply
  pub calls : (image : Image) (s : Machine) (site : CallSite) → ShowsCode c image → StandsFor old s → call_at c s.counter ≡ Some site →
      AnswersSo gives reply site r new image s
