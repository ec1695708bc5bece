-- The source comes along with every step of the machine, or stops on a frame fault.
use Rattle.std.proofs.Common.{◌≡◌, ℕ, Option, Some, None, true, refl, inl, inr}
use Rattle.std.specs.Prelude.{◌⊎◌}
use Rattle.rv64_instr.specs.declared.place.Place.{Place}
use Rattle.sem_mir.specs.mir_func.declared.debug_substitution.OperandPair.{OperandPair}
use Rattle.sem_mir.specs.mir_func.declared.variable.VarId.{VarId}
use Rattle.sem_mir.specs.mir_func.Function.{Function}
use Rattle.sem_mir.specs.State.{State}
use Rattle.sem_mir.specs.mir_func.Graph.{program_of}
use Rattle.sem_machine.specs.Image.{CodeLine, Image, line_at}
use Rattle.sem_machine.specs.Machine.{Machine, machine_start}
use Rattle.sem_machine.specs.MachineStep.{Continues, does_at, machine_step, Comes, there, steps}
use Rattle.sem_machine.specs.Headline.{StartsAt, at_start, after_step, Headline}
use Rattle.sem_machine.specs.HeadlineLaws.{HasCome, HasFailed, HeadlineReachesEveryStep}

-- the machine goes on from a line
from_line : (image : Image) (m u : Machine) (o : Option CodeLine) → does_at image o m ≡ Continues u → (l : CodeLine) × (o ≡ Some l)
from_line image m u None e = absurd (cc)
from_line image m u (Some l) e = (l, refl)

module _ (lists : VarId → (address : ℕ) → Place → Type 0) (source : Function) (resolve : OperandPair → Option OperandPair) (image : Image)
    (headline : Headline source resolve image lists) (s0 : State) (start : StartsAt source s0) where
  abbrev Told : Machine → Type 0
  Told m = HasCome (program_of true source.blocks resolve) image (machine_start image s0) s0 m
      ⊎ HasFailed (program_of true source.blocks resolve) image (machine_start image s0) s0

  goes_on : (m u : Machine) → machine_step image m ≡ Continues u → Told m → Told u
  goes_on m u e (inr failed) = inr failed
  goes_on m u e (inl come) =
      let (l, line) = from_line image m u (line_at image.lines m.counter) e in
      elim (headline.agrees s0 start m come.aligned come.since l come.along line) as (λ z. Told u) [
        | inl (s, aligns, agrees) ↦ inl (record { aligned = s; since = _; along = after_step l come.along line aligns e })
        | inr fails ↦ inr (record {
          machine = m;
          aligned = come.aligned;
          since = come.since;
          line = l;
          along = come.along;
          stands = line;
          fails = fails;
        })
      ]

  every_step : {m : Machine} → Comes image (machine_start image s0) m → Told m
  every_step there = inl (record { aligned = s0; since = _; along = at_start })
  every_step (steps {t = m} {u = u} before e) = goes_on m u e (every_step before)

pub headline_reaches_every_step : (lists : VarId → (address : ℕ) → Place → Type 0) → HeadlineReachesEveryStep lists
headline_reaches_every_step lists source resolve image headline s0 start m comes = every_step lists source resolve image headline s0 start comes
