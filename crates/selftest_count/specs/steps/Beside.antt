-- Both runs, as the code represents them.
use Rattle.std.specs.Prelude.{◌≡◌, ℕ, ◌<◌, List, [], Some, None, Bool, true, false}
use Rattle.mir_func.specs.Graph.{Program}
use Rattle.mir_func.specs.declared.position.Pos.{Pos}
use Rattle.mir_func.specs.declared.position.Origin.{Origin}
use Rattle.mir_func.specs.declared.position.Origin.TheVariants.{Kept, Before}
use Rattle.mir_func.specs.declared.variable.VarId.{VarId}
use Rattle.mir_func.specs.Positions.{position_of}
use Rattle.sem_mir.specs.Align.{Arrives, First, MatchesNext, Since, After}
use Rattle.sem_mir.specs.State.{State}
use Rattle.sem_interpreter.specs.StandsFor.{Concrete, StandsFor as StandsForSource}
use Rattle.dwarf_loclists.specs.declared.range.Range.{Range}
use Rattle.sem_machine.specs.Image.{Image}
use Rattle.sem_machine.specs.Machine.{Machine}
use Rattle.emit_code.specs.declared.code.EncodedInstruction.{EncodedInstruction}
use Rattle.emit_code.specs.Laid.{LaidCode}
use Rattle.sim_machine.specs.declared.hart.Hart.{Hart}
use Rattle.sim_machine.specs.Kept.{StandsFor}
use Rattle.sim_machine.specs.Shown.{ShowsCode, entry_at, entry_call}
use Rattle.selftest_count.specs.declared.counts.Counts.{Counts}
use Rattle.selftest_count.specs.declared.turn.StepOutcome.{StepOutcome}
use Rattle.selftest_count.specs.declared.turn.StepOutcome.TheVariants.{Went, Returned, Apart}
use Rattle.selftest_count.specs.Apart.{MAX_SOURCE_STEPS, Misses, MissesNext, IsApart, GoesApart}
use Rattle.selftest_count.specs.Counts.{no_counts, Counted, AreCounts}

-- the simulator's state represents this state of the source, whose script is empty
pub record IsAt (k : Concrete) (s : State) : Type 0 where
  pub stands : StandsForSource k s
  pub script : s.core.script ≡ []

-- From each source state that `old` represents, the source comes to its first state at the position, which `new` represents.
abbrev pub ArrivesSo : Program → Pos → (old new : Concrete) → Type 0
ArrivesSo src p old new = (s : State) → IsAt old s → (t : State) × Arrives src (First p) p s t × IsAt new t

-- `moved`: the next alignment begins after the state that was aligned last, rather than at it
abbrev pub IsSince : (moved : Bool) → Since → Type 0
IsSince true since = since ≡ After
IsSince false since = since ≡ After → ⊥

-- From each source state that `old` represents, the source comes to its next state aligned at the position, which `new` represents.
abbrev pub AlignsSo : Program → (moved : Bool) → Pos → (old new : Concrete) → Type 0
AlignsSo src moved p old new = (s : State) (since : Since) → IsAt old s → IsSince moved since → (t : State) × MatchesNext src (First p) p since s t × IsAt new t

-- From no source state that `old` represents does the source come to the position.
abbrev pub MissesSo : Program → Pos → (old : Concrete) → Type 0
MissesSo src p old = (s : State) → IsAt old s → Misses src p MAX_SOURCE_STEPS s

-- From no source state that `old` represents does the source come to a next state aligned at the position.
abbrev pub MissesNextSo : Program → (moved : Bool) → Pos → (old : Concrete) → Type 0
MissesNextSo src moved p old = (s : State) (since : Since) → IsAt old s → IsSince moved since → MissesNext src p since s

-- whether code was kept from the source
abbrev pub is_kept : Origin → Bool
is_kept (Kept p) = true
is_kept (Before p) = false

-- The machine is at this entry, which isn't a call site, and the source comes to the state aligned with it.
pub record Meets (src : Program) (c : LaidCode) (moved : Bool) (h : Hart) (old new : Concrete) (e : EncodedInstruction) : Type 0 where
  pub found : entry_at c.entries h.counter ≡ Some e
  pub no_call : entry_call c.framed e ≡ None
  pub aligned : AlignsSo src moved (position_of e.origin) old new

-- The machine and the source diverge, from all of their states that are represented.
abbrev pub MeetsNot : Program → LaidCode → (moved : Bool) → Hart → (old : Concrete) → Type 0
MeetsNot src c moved h old = (image : Image) (m : Machine) (s : State) (since : Since) → ShowsCode c image → StandsFor h m → IsAt old s → IsSince moved since →
    IsApart src image c m s since

-- The machine's and the source's states that are represented are reached by runs in lockstep with these counts.
pub record Beside (src : Program) (image : Image) (lists : List (List Range)) (parts : List VarId) (m0 : Machine) (s0 : State) (n : Counts) (h : Hart)
    (k : Concrete) (moved : Bool) : Type 0 where
  pub machine : Machine
  pub state : State
  pub since : Since
  pub counted : Counted src image lists parts m0 s0 n machine state since
  pub stands : StandsFor h machine
  pub at : IsAt k state
  pub moves : IsSince moved since

-- From states that are reached in lockstep, the runs diverge.
abbrev pub LeadsApart : Program → LaidCode → List (List Range) → List VarId → Counts → Hart → Concrete → (moved : Bool) → Type 0
LeadsApart src c lists parts n h k moved = (image : Image) (m0 : Machine) (s0 : State) (limit : ℕ) → ShowsCode c image →
    Beside src image lists parts m0 s0 n h k moved → n.steps < limit → GoesApart src image c lists parts limit m0 s0

-- A step leads from states that are reached in lockstep to further ones, or returns, with its counts, or the runs diverge.
abbrev pub Leads : Program → LaidCode → List (List Range) → List VarId → StepOutcome → (old new : Counts) → (h h' : Hart) → (k k' : Concrete) →
    (moved moved' : Bool) →
    Type 0
Leads src c lists parts Went old new h h' k k' moved moved' = (image : Image) (m0 : Machine) (s0 : State) → ShowsCode c image →
    Beside src image lists parts m0 s0 old h k moved → Beside src image lists parts m0 s0 new h' k' moved'
Leads src c lists parts Returned old new h h' k k' moved moved' = (image : Image) (m0 : Machine) (s0 : State) (limit : ℕ) → ShowsCode c image →
    Beside src image lists parts m0 s0 old h k moved → old.steps < limit → AreCounts src image lists parts limit m0 s0 new
Leads src c lists parts Apart old new h h' k k' moved moved' = LeadsApart src c lists parts old h k moved

-- From the start of both runs, these are the counts of at most `limit` steps.
abbrev pub CountsFrom : Program → LaidCode → List (List Range) → List VarId → (limit : ℕ) → Hart → Concrete → Counts → Type 0
CountsFrom src c lists parts limit h k n = (image : Image) (m0 : Machine) (s0 : State) → ShowsCode c image →
    Beside src image lists parts m0 s0 no_counts h k false → AreCounts src image lists parts limit m0 s0 n

-- From the start of both runs, they diverge within `limit` steps.
abbrev pub ApartFrom : Program → LaidCode → List (List Range) → List VarId → (limit : ℕ) → Hart → Concrete → Type 0
ApartFrom src c lists parts limit h k = (image : Image) (m0 : Machine) (s0 : State) → ShowsCode c image →
    Beside src image lists parts m0 s0 no_counts h k false → GoesApart src image c lists parts limit m0 s0
