use Rattle.std.proofs.Common.{[], ◌∷◌, ◌++◌, refl, sym, ◌∙◌, nat_cmp}
use Rattle.std.specs.BTreeSet.{contains}
use Rattle.scope_ways.specs.Outer.{is_scope}
use Rattle.scope_ranges.proofs.Steps.{entering_kept, entering_more}
use Rattle.scope_ranges.proofs.table.ScopeTable.enter_scope.Goals as goal

pub returns-then-is_scope : goal.returns-then-is_scope
returns-then-is_scope c = record {
  known = c.in_ok-index.ensures.known;
  scopes = λ old whole left is.
      entering_more (is_scope c.args.meta.now (contains nat_cmp c.args.files.now)) old whole c.args.addresses.now.lo c.args.addresses.now.hi
      (left ++ c.args.scope.now ∷ []) left c.args.scope.now c.args.self.now.scopes.items c.args.outer refl is
      (sym c.is_scope.ensures ∙ c.if-is_scope.true) c.add.new.self.scopes.items c.in_ok-index.index c.in_ok-index.ensures.scopes c.in_ok-index.ensures.index;
}

pub returns : goal.returns
returns c = record {
  known = c.requires;
  scopes = λ old whole left is.
      entering_kept (is_scope c.args.meta.now (contains nat_cmp c.args.files.now)) old whole c.args.addresses.now.lo c.args.addresses.now.hi
      (left ++ c.args.scope.now ∷ []) left c.args.scope.now c.args.self.now.scopes.items c.args.outer refl is
      (sym c.is_scope.ensures ∙ c.if-is_scope.false);
}
