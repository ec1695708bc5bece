-- How far a fact spreads over a graph, and the walk that finds it. A set of nodes has a flag for each node.
use Rattle.std.specs.Prelude.{◌≡◌, ◌⊎◌, ℕ, ◌+◌, ◌≤◌, List, length, sum_by, Bool, true, false, slice_index_or, Contains}
use Rattle.dataflow.specs.Graph.{IsEdge}

-- the node is in the set
abbrev pub IsIn : (nodes : List Bool) → (node : ℕ) → Type 0
IsIn nodes n = slice_index_or nodes n false ≡ true

-- the node isn't in the set
abbrev pub IsOut : (nodes : List Bool) → (node : ℕ) → Type 0
IsOut nodes n = slice_index_or nodes n false ≡ false

-- the nodes that a fact spreads to from its sources, if it crosses the edges for which `passes` is true
pub data Spreads (ways : List (List ℕ)) (passes : (from to : ℕ) → Bool) (sources : List ℕ) : ℕ → Type 0 where
  begins : {n : ℕ} → Contains sources n → Spreads ways passes sources n
  goes : {m n : ℕ} → Spreads ways passes sources m → IsEdge ways m n → passes m n ≡ true → Spreads ways passes sources n

-- 1 for a node that isn't in the set
abbrev pub out_of : Bool → ℕ
out_of true = 0
out_of false = 1

-- the number of nodes that aren't in the set
abbrev pub count_out : List Bool → ℕ
count_out nodes = sum_by out_of nodes

-- nodes are reached: those that `To` tells. Those that were not reached before wait then, beside those that waited
pub record Reaching (To : ℕ → Type 0) (old new : List Bool) (waited waiting : List ℕ) : Type 0 where
  pub long : length new ≡ length old
  pub kept : (n : ℕ) → IsIn old n → IsIn new n
  pub more : (n : ℕ) → IsIn new n → IsIn old n ⊎ To n
  pub all : (n : ℕ) → To n → IsIn new n
  pub held : (n : ℕ) → Contains waited n → Contains waiting n
  pub wait : (n : ℕ) → Contains waiting n → Contains waited n ⊎ IsIn new n
  pub added : (n : ℕ) → IsIn new n → IsOut old n → Contains waiting n
  pub falls : count_out new + length waiting ≤ count_out old + length waited
