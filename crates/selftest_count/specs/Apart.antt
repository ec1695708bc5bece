-- Why the runs of machine code and of its source diverge.
use Rattle.std.specs.Prelude.{◌≡◌, ◌⊎◌, ℕ, zero, suc, ◌<◌, List, Some, None, IsSome}
use Rattle.mir_func.specs.declared.position.Pos.{Pos}
use Rattle.mir_func.specs.declared.variable.VarId.{VarId}
use Rattle.mir_func.specs.Graph.{Program}
use Rattle.mir_func.specs.Positions.{position_of}
use Rattle.sem_mir.specs.Align.{Since, Start, Same, After}
use Rattle.sem_mir.specs.State.{State}
use Rattle.sem_mir.specs.Step.{Went, step}
use Rattle.dwarf_loclists.specs.declared.range.Range.{Range}
use Rattle.sem_machine.specs.Image.{CodeLine, Image, line_at}
use Rattle.sem_machine.specs.Machine.{Machine}
use Rattle.sem_machine.specs.MachineStep.{machine_step, IsWell}
use Rattle.emit_code.specs.declared.code.EncodedInstruction.{EncodedInstruction}
use Rattle.emit_code.specs.Laid.{LaidCode}
use Rattle.sim_machine.specs.Shown.{entry_at, entry_call}
use Rattle.selftest_count.specs.declared.counts.Counts.{Counts}
use Rattle.selftest_count.specs.Counts.{Counted}

-- the most steps that the source may make from one line to the next: 2^64 - 1
abbrev pub MAX_SOURCE_STEPS : ℕ
MAX_SOURCE_STEPS = 18446744073709551615

-- the source makes no further step
abbrev pub Halts : Program → State → Type 0
Halts src s = (t : State) → step src s ≡ Went t → ⊥

-- The source doesn't come to a position: it makes this many steps, none of them from there, or it halts before.
pub data Misses (src : Program) (p : Pos) : (steps : ℕ) → State → Type 0 where
  makes_all : {s : State} → Misses src p zero s
  halts : {n : ℕ} {s : State} → (s.pos ≡ p → ⊥) → Halts src s → Misses src p n s
  goes_on : {n : ℕ} {s u : State} → (s.pos ≡ p → ⊥) → step src s ≡ Went u → Misses src p n u → Misses src p (suc n) s

-- The source doesn't come to the position after the state that was aligned last.
abbrev pub MissesNext : Program → Pos → Since → State → Type 0
MissesNext src p Start s = Misses src p MAX_SOURCE_STEPS s
MissesNext src p Same s = Misses src p MAX_SOURCE_STEPS s
MissesNext src p After s = Halts src s ⊎ ((u : State) × (step src s ≡ Went u) × Misses src p MAX_SOURCE_STEPS u)

-- The machine at m and the source, which was aligned last at s, diverge: there is no code line at the program counter, or a call's, or the source
-- doesn't come to the line's origin, or the machine's next step leaves the code or meets a word that encodes no machine operation.
pub data IsApart (src : Program) (image : Image) (c : LaidCode) (m : Machine) (s : State) (since : Since) : Type 0 where
  at_no_line : line_at image.lines m.counter ≡ None → IsApart src image c m s since
  at_call : (e : EncodedInstruction) → entry_at c.entries m.counter ≡ Some e → IsSome (entry_call c.framed e) → IsApart src image c m s since
  source_misses : (l : CodeLine) → line_at image.lines m.counter ≡ Some l → MissesNext src (position_of l.origin) since s → IsApart src image c m s since
  stops_badly : (IsWell (machine_step image m) → ⊥) → IsApart src image c m s since

-- Both come to states at which they diverge, before the machine has made `limit` steps.
pub record GoesApart (src : Program) (image : Image) (c : LaidCode) (lists : List (List Range)) (parts : List VarId) (limit : ℕ) (m0 : Machine) (s0 : State) :
    Type 0 where
  pub counts : Counts
  pub machine : Machine
  pub state : State
  pub since : Since
  pub counted : Counted src image lists parts m0 s0 counts machine state since
  pub below : counts.steps < limit
  pub apart : IsApart src image c machine state since
