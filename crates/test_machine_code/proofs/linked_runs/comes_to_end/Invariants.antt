use Rattle.sem_interpreter.specs.StandsFor.{IsPosition}
use Rattle.test_machine_code.proofs.linked_runs.comes_to_end.Given as goal

abbrev pub invariant-loop : goal.invariant-loop
invariant-loop l = IsPosition l.f.blocks l.state.pos
