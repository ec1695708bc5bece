-- Control-flow graphs, as the lists of each block's successors. A block is named by its index.
use Rattle.std.specs.Prelude.{◌≡◌, ◌↔◌, ℕ, ◌<◌, ◌≤◌, List, [], length, slice_index_or, All, Contains}

-- the list of the block with this index; a list of no block is empty
abbrev pub ways_at : (ways : List (List ℕ)) → (block : ℕ) → List ℕ
ways_at ways b = slice_index_or ways b []

-- an edge of the graph
abbrev pub IsEdge : (successors : List (List ℕ)) → (b c : ℕ) → Type 0
IsEdge successors b c = Contains (ways_at successors b) c

-- a list of blocks of a graph that has so many
abbrev pub AreBlocks : (blocks : ℕ) → List ℕ → Type 0
AreBlocks blocks ways = All (λ b. b < blocks) ways

-- all edges lead to blocks of the graph
abbrev pub IsGraph : (successors : List (List ℕ)) → Type 0
IsGraph successors = All (AreBlocks (length successors)) successors

-- no block has more of these than so many
abbrev pub AreAtMost : (most : ℕ) → (ways : List (List ℕ)) → Type 0
AreAtMost most ways = All (λ w. length w ≤ most) ways

-- the lists of predecessors are exact: p is listed for b if and only if an edge leads from p to b
pub record ArePredecessors (successors preds : List (List ℕ)) : Type 0 where
  pub long : length preds ≡ length successors
  pub each : (b p : ℕ) → Contains (ways_at preds b) p ↔ IsEdge successors p b

-- an order of this many blocks: it has each of them, and no other
pub record IsOrder (blocks : ℕ) (order : List ℕ) : Type 0 where
  pub within : AreBlocks blocks order
  pub all : (b : ℕ) → b < blocks → Contains order b
