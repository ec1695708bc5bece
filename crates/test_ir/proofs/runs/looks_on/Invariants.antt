use Rattle.sem_interpreter.specs.StandsFor.{IsPosition}
use Rattle.test_ir.proofs.runs.looks_on.Given as goal

abbrev pub invariant-loop-line : goal.invariant-loop-line
invariant-loop-line l = IsPosition l.f.blocks l.state.pos
