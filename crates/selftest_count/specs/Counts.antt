-- The counts of a run of the machine in lockstep with the source.
use Rattle.std.specs.Prelude.{◌≡◌, ℕ, ◌+◌, ◌<◌, List, Option, Some, None, false, is_some}
use Rattle.std.specs.List.{sum_by, count_by}
use Rattle.mir_func.specs.Graph.{Program}
use Rattle.mir_func.specs.declared.variable.VarId.{VarId}
use Rattle.sem_mir.specs.Align.{waits_at, since_of, Since, Start}
use Rattle.sem_mir.specs.State.{State, RunResult, assigned}
use Rattle.dwarf_loclists.specs.declared.range.Location.{Location}
use Rattle.dwarf_loclists.specs.declared.range.Range.{Range}
use Rattle.dwarf_loclists.specs.Ranges.{location_in, places_of}
use Rattle.sem_machine.specs.Headline.{AlignsWith}
use Rattle.sem_machine.specs.Image.{CodeLine, Image, line_at}
use Rattle.sem_machine.specs.Machine.{Machine}
use Rattle.sem_machine.specs.MachineStep.{Continues, Ends, machine_step}
use Rattle.selftest_count.specs.declared.counts.Counts.{Counts}

-- the number of values of a variable by its location: one for the whole, or one for each piece
abbrev pub values_of : Option Location → ℕ
values_of None = 0
values_of (Some l) = places_of l

-- the number of values in location lists at an address
abbrev pub read_at : List (List Range) → (address : ℕ) → ℕ
read_at lists a = sum_by (λ ranges. values_of (location_in ranges a)) lists

-- the number of these parts of variables whose newest assignment has a value
abbrev pub known_in : List VarId → State → ℕ
known_in parts s = count_by (λ v. is_some (assigned v s.core.marks)) parts

-- zero counts
abbrev pub no_counts : Counts
no_counts = record { steps = 0; reads = 0; known = 0 }

-- The counts with one more step: the values in the location lists at the machine's program counter, and those that the source knows in the state
-- aligned with it.
abbrev pub counted : List (List Range) → List VarId → Machine → State → Counts → Counts
counted lists parts m s n = record { steps = n.steps + 1; reads = n.reads + read_at lists m.counter; known = n.known + known_in parts s }

-- The machine runs from m0 in lockstep with the source from s0, with these counts, to m. The source was aligned last at s, and `since` determines the
-- next alignment.
pub data Counted (src : Program) (image : Image) (lists : List (List Range)) (parts : List VarId) (m0 : Machine) (s0 : State) :
    Counts → Machine → State → Since → Type 0 where
  at_start : Counted src image lists parts m0 s0 no_counts m0 s0 Start
  after_step : {n : Counts} {m m' : Machine} {s s' : State} {since : Since} (l : CodeLine) → Counted src image lists parts m0 s0 n m s since →
      line_at image.lines m.counter ≡ Some l → AlignsWith src l since s s' → machine_step image m ≡ Continues m' →
      Counted src image lists parts m0 s0 (counted lists parts m s' n) m' s' (since_of (waits_at false l.origin))

-- The counts of a run of at most `limit` steps: all of them are made, or the last one returns.
pub data AreCounts (src : Program) (image : Image) (lists : List (List Range)) (parts : List VarId) (limit : ℕ) (m0 : Machine) (s0 : State) :
    Counts → Type 0 where
  makes_steps : {n : Counts} {m : Machine} {s : State} {since : Since} → Counted src image lists parts m0 s0 n m s since → n.steps ≡ limit →
      AreCounts src image lists parts limit m0 s0 n
  returns : {n : Counts} {m : Machine} {s : State} {since : Since} (s' : State) (l : CodeLine) (result : RunResult) →
      Counted src image lists parts m0 s0 n m s since →
      n.steps < limit → line_at image.lines m.counter ≡ Some l → AlignsWith src l since s s' → machine_step image m ≡ Ends result →
      AreCounts src image lists parts limit m0 s0 (counted lists parts m s' n)
