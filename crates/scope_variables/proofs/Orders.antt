-- Ordered lists of variables.
use Rattle.std.proofs.Common.{◌≡◌, ℕ, List, [], ◌∷◌, ◌++◌, refl}
use Rattle.std.specs.BTreeSet.{insert_key}
use Rattle.scope_variables.specs.Order.{in_order, by_rank}

pub in_order_append : (before vs ws : List (ℕ × ℕ)) → in_order before (vs ++ ws) ≡ in_order (in_order before vs) ws
in_order_append before [] ws = refl
in_order_append before (v ∷ vs) ws = in_order_append (insert_key by_rank before v) vs ws
