-- What control leaves a function for.
use Rattle.std.specs.Prelude.{ℕ, Bool, true, false, Option, Some, None}
use Rattle.rv64_instr.specs.declared.op.Op.{Op}
use Rattle.rv64_instr.specs.declared.op.Op.TheVariants.{PseudoTail, PseudoTailIndirect, NoReturnCall, NoReturnCallIndirect}
use Rattle.rv64_instr.specs.declared.start.CallTarget.{CallTarget}
use Rattle.rv64_instr.specs.Row.{Callee, Way, Back, Tail, Never, Ending}
use Rattle.mir_func.specs.Function.{FramedFunction}
use Rattle.sem_machine.specs.Machine.{Machine}
use Rattle.sem_machine.specs.MachineStep.{called_at}
use Rattle.emit_code.specs.declared.code.EncodedInstruction.{EncodedInstruction}
use Rattle.emit_code.specs.Laid.{LaidCode}
use Rattle.sim_machine.specs.Shown.{entry_at, entry_left}

-- the opcodes of calls in tail position and of calls that don't return
abbrev pub is_leaving : Op → Bool
is_leaving PseudoTail = true
is_leaving PseudoTailIndirect = true
is_leaving NoReturnCall = true
is_leaving NoReturnCallIndirect = true
is_leaving _ = false

-- what control leaves for on a way
abbrev pub way_target : Machine → Way Callee → Option CallTarget
way_target s Back = None
way_target s (Tail callee) = Some (called_at s callee)
way_target s (Never callee) = Some (called_at s callee)

-- how control leaves for a callee at an entry, if it does
abbrev pub found_left : FramedFunction → Option EncodedInstruction → Option (Ending Callee)
found_left f None = None
found_left f (Some e) = entry_left f e

-- the same at an address
abbrev pub left_at : LaidCode → (address : ℕ) → Option (Ending Callee)
left_at c a = found_left c.framed (entry_at c.entries a)
