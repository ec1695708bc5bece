use Rattle.std.proofs.Common.{◌≡◌, ℕ, ◌≤◌, length, drop}
use Rattle.std.specs.Prelude.{Option}
use Rattle.indexmap.specs.IndexMap.{get}
use Rattle.scope_variables.specs.Variables.{list_from}
use Rattle.scope_variables.specs.steps.Marked.{is_pair}
use Rattle.scope_variables.proofs.marked.MarkedVariables.new.Given as goal

abbrev pub invariant-variables : goal.invariant-variables
invariant-variables l = record {
  within : l.index ≤ length l.variables;
  found : (q : ℕ × Option ℕ) → get is_pair l.lists q ≡ list_from l.index (drop l.index l.variables) q.0 q.1;
}

abbrev pub decreases-variables : goal.decreases-variables
decreases-variables l = l.index
