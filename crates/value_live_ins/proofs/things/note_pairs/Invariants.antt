use Rattle.std.specs.Prelude.{Contains}
use Rattle.value_solver.specs.declared.tracked.Tracked.TheVariants.{Pair}
use Rattle.value_live_ins.specs.Gathering.{IsGathered, Grows, AppendsOnly, IsPairOf}
use Rattle.value_live_ins.proofs.Each.{EachBelow}
use Rattle.value_live_ins.proofs.things.note_pairs.Given as goal

abbrev pub invariant-loop-pair : goal.invariant-loop-pair
invariant-loop-pair l = record {
  gathered : IsGathered l.gathered;
  grows : Grows l.initial.gathered.things l.gathered.things;
  has : EachBelow (λ q. Contains l.gathered.things (Pair q)) l.pair-index l.pairs;
  only : AppendsOnly (IsPairOf l.pairs) l.initial.gathered.things l.gathered.things;
}
