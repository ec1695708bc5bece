use Rattle.value_tracker.specs.Chains.{AreChained}
use Rattle.value_tracker.proofs.part_list.chains_of.Given as goal

abbrev pub invariant-loop-i : goal.invariant-loop-i
invariant-loop-i l = AreChained l.parts l.i l.chains.ends l.chains.before.items
