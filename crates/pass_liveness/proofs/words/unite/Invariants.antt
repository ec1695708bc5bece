use Rattle.pass_liveness.proofs.Uniting.{Uniting}
use Rattle.pass_liveness.proofs.words.unite.Given as goal

abbrev pub invariant-loop-k : goal.invariant-loop-k
invariant-loop-k l = Uniting l.initial.words l.others l.k l.words l.grown
