-- Types by the numbers of their nodes.
use Rattle.std.specs.Prelude.{ℕ, ◌+◌, ◌<◌, ◌==◌, if◌then◌else◌, Option, Some, None, List, [], ◌∷◌, length, slice_index}

-- each number is below those behind it
abbrev pub Ascends : List ℕ → Type 0
Ascends nodes = (i j : ℕ) → i < j → j < length nodes → slice_index nodes i < slice_index nodes j

-- the index of a node, and one past them all for a node that isn't among them
abbrev pub index_in : (nodes : List ℕ) → (node : ℕ) → ℕ
index_in [] n = 0
index_in (m ∷ nodes) n = if m == n then 0 else index_in nodes n + 1

-- the index of a node, and one past them all for none
abbrev pub index_or_past : (nodes : List ℕ) → Option ℕ → ℕ
index_or_past nodes None = length nodes
index_or_past nodes (Some n) = index_in nodes n
