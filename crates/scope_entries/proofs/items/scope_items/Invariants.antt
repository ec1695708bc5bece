use Rattle.std.proofs.Common.{◌≡◌, ◌++◌, drop}
use Rattle.std.specs.List.{flat_map}
use Rattle.scope_entries.specs.Items.{items_of, step_items}
use Rattle.scope_entries.proofs.items.scope_items.Given as goal

abbrev pub invariant-loop-step : goal.invariant-loop-step
invariant-loop-step l =
    l.items ++ flat_map (step_items l.meta l.debug l.variables l.scopes) (drop l.step-index l.step-items)
    ≡ items_of l.meta l.debug l.variables l.fn.subprogram l.scopes
