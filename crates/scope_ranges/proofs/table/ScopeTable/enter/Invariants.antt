use Rattle.std.proofs.Common.{◌≡◌, vec_len, nat_cmp}
use Rattle.std.specs.BTreeSet.{contains}
use Rattle.scope_ways.specs.Outer.{is_scope}
use Rattle.scope_ranges.specs.steps.Entered.{places, IsEntering}
use Rattle.scope_ranges.proofs.table.ScopeTable.enter.Given as goal

abbrev pub invariant-loop-scope : goal.invariant-loop-scope
invariant-loop-scope l = record {
  known : l.self.known ≡ places l.self.scopes.items;
  entering : IsEntering (is_scope l.meta (contains nat_cmp l.files)) l.fn.self.scopes.items l.initial.way.items l.way.items l.addresses.lo l.addresses.hi
      l.self.scopes.items l.outer;
}

abbrev pub decreases-loop-scope : goal.decreases-loop-scope
decreases-loop-scope l = vec_len l.way
