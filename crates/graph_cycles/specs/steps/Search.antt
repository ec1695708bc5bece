-- The state of the search for nodes from which each walk ends. `checked` counts the successors of each node, from the first one on, that are marked. Nodes
-- that wait are marked, and their predecessors are still to be visited.
use Rattle.std.specs.Prelude.{◌≡◌, ◌⊎◌, ℕ, ◌<◌, ◌≤◌, Bool, true, false, not, List, length, slice_index_or, Contains}
use Rattle.std.specs.List.{filter}
use Rattle.dataflow.specs.Graph.{ways_at, IsEdge, AreBlocks}
use Rattle.graph_cycles.specs.Ends.{Ends, is_marked, IsEndOrder}

-- a successor of a node, by its number
abbrev pub successor : (successors : List (List ℕ)) → (node k : ℕ) → ℕ
successor successors n k = slice_index_or (ways_at successors n) k 0

abbrev pub count_at : (checked : List ℕ) → (node : ℕ) → ℕ
count_at checked n = slice_index_or checked n 0

-- the first of these nodes from a number on that isn't marked
pub record IsFirstUnmarked (ways : List ℕ) (marks : List Bool) (start k : ℕ) : Type 0 where
  pub after : start ≤ k
  pub inside : k ≤ length ways
  pub past : (j : ℕ) → start ≤ j → j < k → is_marked marks (slice_index_or ways j 0) ≡ true
  pub here : k < length ways → is_marked marks (slice_index_or ways k 0) ≡ false

pub record IsSearch (successors : List (List ℕ)) (checked : List ℕ) (marks : List Bool) (order waiting : List ℕ) : Type 0 where
  pub counts : length checked ≡ length successors
  pub long : length marks ≡ length successors
  pub within : AreBlocks (length successors) waiting
  pub ordered : IsEndOrder successors marks order
  pub right : (n : ℕ) → is_marked marks n ≡ true → Ends (IsEdge successors) n
  pub inside : (n : ℕ) → count_at checked n ≤ length (ways_at successors n)
  pub past : (n k : ℕ) → k < count_at checked n → is_marked marks (successor successors n k) ≡ true

-- a node has a successor that isn't marked or that waits
abbrev pub IsOpen : (successors : List (List ℕ)) → (checked : List ℕ) → (marks : List Bool) → (waiting : List ℕ) → (node : ℕ) → Type 0
IsOpen successors checked marks waiting n =
    (count_at checked n < length (ways_at successors n)) × ((is_marked marks (successor successors n (count_at checked n)) ≡ false)
    ⊎ Contains waiting (successor successors n (count_at checked n)))

-- each node that isn't marked is open, or is due to be visited
abbrev pub AreOpen : (successors : List (List ℕ)) → (checked : List ℕ) → (marks : List Bool) → (waiting due : List ℕ) → Type 0
AreOpen successors checked marks waiting due =
    (n : ℕ) → n < length successors → is_marked marks n ≡ false → IsOpen successors checked marks waiting n ⊎ Contains due n

-- how many nodes aren't marked
abbrev pub unmarked : List Bool → ℕ
unmarked marks = length (filter not marks)
