use Rattle.value_live_ins.specs.Gathering.{IsGathered, Grows, AppendsOnly, IsRegister, HasRegistersBelow}
use Rattle.value_live_ins.proofs.things.add_registers.Given as goal

abbrev pub invariant-loop-n : goal.invariant-loop-n
invariant-loop-n l = record {
  gathered : IsGathered l.gathered;
  grows : Grows l.initial.gathered.things l.gathered.things;
  has : HasRegistersBelow l.n l.gathered.things;
  only : AppendsOnly IsRegister l.initial.gathered.things l.gathered.things;
}
