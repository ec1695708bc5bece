use Rattle.std.proofs.Common.{◌≡◌, ◌++◌, map, take}
use Rattle.inline_subroutines.specs.inline_instances.Instances.{scope_of_call}
use Rattle.dwarf_unit.proofs.inlined.push_scopes.Given as goal

abbrev pub invariant-loop-instance : goal.invariant-loop-instance
invariant-loop-instance l = l.scopes ≡ l.fn.scopes ++ map (λ i. scope_of_call l.meta i.call) (take l.instance-index l.instances)
