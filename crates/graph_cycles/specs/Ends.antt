-- Walks in a graph, as the lists of each node's successors. A node is named by its index.
use Rattle.std.specs.Prelude.{◌≡◌, ◌↔◌, ℕ, ◌<◌, Bool, true, false, List, length, slice_index_or, take, Contains}
use Rattle.dataflow.specs.Graph.{IsEdge, AreBlocks}

-- each walk from a node ends: none comes to a cycle
pub data Ends (Step : ℕ → ℕ → Type 0) : ℕ → Type 0 where
  on : {n : ℕ} → ((m : ℕ) → Step n m → Ends Step m) → Ends Step n

abbrev pub is_marked : (marks : List Bool) → (node : ℕ) → Bool
is_marked marks n = slice_index_or marks n false

-- the marked nodes of a graph are those from which each walk ends
pub record AreEnds (successors : List (List ℕ)) (marks : List Bool) : Type 0 where
  pub long : length marks ≡ length successors
  pub each : (n : ℕ) → n < length successors → (is_marked marks n ≡ true) ↔ Ends (IsEdge successors) n

-- an order of the marked nodes, each of them once, in which each is behind its successors
pub record IsEndOrder (successors : List (List ℕ)) (marks : List Bool) (order : List ℕ) : Type 0 where
  pub within : AreBlocks (length successors) order
  pub listed : (n : ℕ) → Contains order n ↔ (is_marked marks n ≡ true)
  pub once : (k : ℕ) → k < length order → Contains (take k order) (slice_index_or order k 0) → ⊥
  pub behind : (k m : ℕ) → k < length order → IsEdge successors (slice_index_or order k 0) m → Contains (take k order) m
