use Rattle.std.proofs.Common.{◌≡◌, map}
use Rattle.std.specs.Prelude.{Contains, Option}
use Rattle.mir_func.specs.declared.debug_substitution.OperandPair.{OperandPair}
use Rattle.mir_func.specs.declared.item.Item.{Item}
use Rattle.mir_func.specs.declared.variable.VarId.{VarId}
use Rattle.value_solver.specs.declared.tracked.Tracked.TheVariants.{Part}
use Rattle.value_live_ins.specs.Gathering.{IsGathered, AppendsOnly, HasPart}
use Rattle.value_live_ins.specs.Used.{IsNamedIn}
use Rattle.value_live_ins.proofs.Each.{EachBelow}
use Rattle.value_live_ins.proofs.things.add_parts.Given as goal

abbrev pub invariant-loop-item : goal.invariant-loop-item
invariant-loop-item l = record {
  gathered : IsGathered l.gathered;
  parts : l.gathered.things ≡ map Part l.variables;
  kept : (v : VarId) → Contains l.initial.variables v → Contains l.variables v;
  has : EachBelow (λ (i : Item). HasPart l.variables i.kind) l.item-index l.items;
  only : (ends : OperandPair → Option OperandPair) → AppendsOnly (IsNamedIn ends l.items) l.initial.gathered.things l.gathered.things;
}
