use Rattle.std.proofs.Common.{◌≤◌, ◌-◌, length}
use Rattle.std.specs.HashMap.{spare}
use Rattle.sem_mir.specs.State.{Core}
use Rattle.sem_interpreter.specs.Places.{RegistersHold}
use Rattle.sem_interpreter.specs.StandsFor.{PairsHold}
use Rattle.sem_interpreter.proofs.Numbers.{given_below}
use Rattle.sem_interpreter.proofs.pairs.number.Given as goal

abbrev pub invariant-loop-o : goal.invariant-loop-o
invariant-loop-o l = record {
  room : length l.operands - l.o ≤ spare l.pairs;
  given : (s : Core) → RegistersHold l.registers s.regs → PairsHold l.initial.pairs.entries s.pairs →
      PairsHold l.pairs.entries (given_below l.call l.k l.operands l.o s);
}
