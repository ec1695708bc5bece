use Rattle.std.proofs.Common.{◌≡◌, [], map}
use Rattle.std.specs.Prelude.{All, Option}
use Rattle.mir_func.specs.declared.block.Block.{Block}
use Rattle.mir_func.specs.declared.debug_substitution.OperandPair.{OperandPair}
use Rattle.value_solver.specs.declared.tracked.Tracked.TheVariants.{Part}
use Rattle.value_live_ins.specs.Gathering.{IsGathered, AppendsOnly, HasPart}
use Rattle.value_live_ins.specs.Used.{IsNamed}
use Rattle.value_live_ins.proofs.Each.{EachBelow}
use Rattle.value_live_ins.proofs.things.gather_parts.Given as goal

abbrev pub invariant-loop-block : goal.invariant-loop-block
invariant-loop-block l = record {
  gathered : IsGathered l.gathered;
  parts : l.gathered.things ≡ map Part l.variables;
  has : EachBelow (λ (b : Block). All (λ i. HasPart l.variables i.kind) b.items) l.block-index l.blocks;
  only : (ends : OperandPair → Option OperandPair) → AppendsOnly (IsNamed ends l.blocks) [] l.gathered.things;
}
