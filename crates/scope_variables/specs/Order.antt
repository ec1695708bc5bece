-- The order of the variables of a scope.
use Rattle.std.specs.Prelude.{ℕ, List, [], ◌∷◌, cond, nat_eq}
use Rattle.std.specs.declared.cmp.Ordering.{Ordering}
use Rattle.std.specs.Ordering.{nat_cmp, ordering_then}
use Rattle.std.specs.BTreeSet.{insert_key}
use Rattle.read_debug_nodes.specs.Maps.{DebugMaps}
use Rattle.scope_variables.specs.Nodes.{arg_at}

-- the rank of a variable that is no parameter: that of each parameter is below it
abbrev pub BEHIND_PARAMETERS : ℕ
BEHIND_PARAMETERS = 4294967296

-- the rank of a variable: parameters by their number, and behind them the others
abbrev pub rank : (arg : ℕ) → ℕ
rank arg = cond (nat_eq arg 0) BEHIND_PARAMETERS arg

-- a variable with its rank
abbrev pub key : DebugMaps → (node : ℕ) → ℕ × ℕ
key debug node = (rank (arg_at debug node), node)

-- variables by their rank, and then by their node
abbrev pub by_rank : ℕ × ℕ → ℕ × ℕ → Ordering
by_rank v w = ordering_then (nat_cmp v.0 w.0) (nat_cmp v.1 w.1)

-- an ordered list with further variables, each once
abbrev pub in_order : (List (ℕ × ℕ)) → List (ℕ × ℕ) → List (ℕ × ℕ)
in_order before [] = before
in_order before (v ∷ vs) = in_order (insert_key by_rank before v) vs
