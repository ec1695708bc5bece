use Rattle.std.proofs.Common.{sym, subst}
use Rattle.scope_entries.specs.Prefix.{IsForest}
use Rattle.scope_entries.proofs.Forests.{scopes_are_forest}
use Rattle.test_scopes.proofs.items_of_text.told_of_function.Goals as goal

pub scope_items-requires-clause-forest : goal.scope_items-requires-clause-forest
scope_items-requires-clause-forest c = subst IsForest (sym c.as_slice-found.ensures) (scopes_are_forest _ _ _ _ c.in_ok-found.ensures)
