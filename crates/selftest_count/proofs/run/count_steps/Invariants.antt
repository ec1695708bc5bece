use Rattle.std.proofs.Common.{◌≡◌, ◌≤◌, ◌-◌, false}
use Rattle.sem_machine.specs.Image.{Image}
use Rattle.sem_machine.specs.Machine.{Machine}
use Rattle.sem_mir.specs.State.{State}
use Rattle.sem_interpreter.specs.StandsFor.{IsPosition}
use Rattle.sem_interpreter.specs.Steps.{source_of}
use Rattle.sim_machine.specs.Shown.{ShowsCode}
use Rattle.selftest_count.specs.Counts.{no_counts}
use Rattle.selftest_count.specs.steps.Beside.{Beside}
use Rattle.selftest_count.specs.steps.Bounds.{AreBounded}
use Rattle.selftest_count.proofs.run.count_steps.Given as goal

abbrev pub invariant-steps : goal.invariant-steps
invariant-steps l = record {
  code : l.machine.code ≡ l.initial.machine.code;
  at : IsPosition l.source.blocks l.state.pos;
  bounded : AreBounded l.counts;
  within : l.counts.steps ≤ l.limit;
  lead : (image : Image) (m : Machine) (s : State) → ShowsCode l.initial.machine.code image →
      Beside (source_of l.source.blocks l.subs) image l.lists l.parts m s no_counts l.initial.machine.hart l.initial.state false →
      Beside (source_of l.source.blocks l.subs) image l.lists l.parts m s l.counts l.machine.hart l.state l.moved;
}

abbrev pub decreases-steps : goal.decreases-steps
decreases-steps l = l.limit - l.counts.steps
