use Rattle.std.proofs.Common.{◌≤◌, ◌-◌}
use Rattle.sem_interpreter.specs.StandsFor.{IsPosition}
use Rattle.sem_interpreter.specs.Steps.{source_of}
use Rattle.selftest_count.proofs.Sources.{OnTheWay}
use Rattle.selftest_count.proofs.source.arrive.Given as goal

abbrev pub invariant-steps : goal.invariant-steps
invariant-steps l = record {
  at : IsPosition l.f.blocks l.state.pos;
  few : l.made ≤ 18446744073709551615;
  way : OnTheWay (source_of l.f.blocks l.subs) l.target l.made l.initial.state l.state;
}

abbrev pub decreases-steps : goal.decreases-steps
decreases-steps l = 18446744073709551615 - l.made
