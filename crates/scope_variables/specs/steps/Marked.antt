-- The location lists of variables, by their nodes and the nodes that they are inlined at.
use Rattle.std.specs.Prelude.{◌≡◌, ℕ, Bool, ◌&&◌, List, nat_eq, Option}
use Rattle.std.specs.Option.{option_eq}
use Rattle.indexmap.specs.IndexMap.{get}
use Rattle.mir_func.specs.declared.variable.VarId.{VarId}
use Rattle.scope_variables.specs.declared.marked.MarkedVariables.{MarkedVariables}
use Rattle.scope_variables.specs.Variables.{list_from}

abbrev pub pair : (node : ℕ) → (inlined_at : Option ℕ) → ℕ × Option ℕ
pair node at = (node, at)

abbrev pub is_pair : ℕ × Option ℕ → ℕ × Option ℕ → Bool
is_pair x y = nat_eq x.0 y.0 && option_eq nat_eq x.1 y.1

-- each variable has the list with its index
abbrev pub AreMarked : List VarId → MarkedVariables → Type 0
AreMarked variables m = (q : ℕ × Option ℕ) → get is_pair m.lists q ≡ list_from 0 variables q.0 q.1
