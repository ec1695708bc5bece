use Rattle.std.proofs.Common.{◌≡◌, ℕ, length}
use Rattle.std.specs.Prelude.{Some, slice_get}
use Rattle.mir_func.specs.declared.variable.VarId.{VarId}
use Rattle.location_of_variable.specs.declared.group.Group.{Group}
use Rattle.location_of_variable.specs.Groups.{IsGroupOf}
use Rattle.location_of_variable.proofs.group.groups.Given as goal

abbrev pub invariant-loop-variable : goal.invariant-loop-variable
invariant-loop-variable l = record {
  count : length l.groups.items ≡ l.variable-index;
  each : (k : ℕ) (v : VarId) (group : Group) → slice_get l.variables k ≡ Some v → slice_get l.groups.items k ≡ Some group → IsGroupOf l.parts v group;
}
