use Rattle.sem_interpreter.specs.StandsFor.{IsPosition}
use Rattle.test_ir.proofs.runs.steps.Given as goal

abbrev pub invariant-loop : goal.invariant-loop
invariant-loop l = IsPosition l.f.blocks l.state.pos
