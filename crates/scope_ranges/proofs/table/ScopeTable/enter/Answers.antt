use Rattle.std.proofs.Common.{List, subst, nat_cmp}
use Rattle.std.specs.BTreeSet.{contains}
use Rattle.scope_ways.specs.declared.scope.LexicalScope.{LexicalScope}
use Rattle.scope_ways.specs.Outer.{is_scope}
use Rattle.scope_ranges.specs.steps.Entered.{IsEntering}
use Rattle.scope_ranges.proofs.Steps.{entering_none}
use Rattle.scope_ranges.proofs.table.ScopeTable.enter.Goals as goal

pub loop-scope-init : goal.loop-scope-init
loop-scope-init c = record {
  known = c.requires;
  entering =
      entering_none (is_scope c.args.meta.now (contains nat_cmp c.args.files.now)) c.args.self.now.scopes.items c.args.way.items c.args.addresses.now.lo
      c.args.addresses.now.hi;
}

pub loop-scope-preserved : goal.loop-scope-preserved
loop-scope-preserved c = record {
  known = c.in_ok-outer.ensures.known;
  entering =
      c.in_ok-outer.ensures.scopes c.args.self.now.scopes.items c.args.way.items c.pop.new.self.items
      (subst
      (λ (ss : List LexicalScope). IsEntering (is_scope c.args.meta.now (contains nat_cmp c.args.files.now)) c.args.self.now.scopes.items c.args.way.items ss
      c.args.addresses.now.lo c.args.addresses.now.hi c.loop-scope.self.scopes.items c.loop-scope.outer)
      c.in-Some.ensures.items c.loop-scope.invariant.entering);
}
