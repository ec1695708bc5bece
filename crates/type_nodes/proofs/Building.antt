-- Lists of steps that are made one after the other.
use Rattle.std.proofs.Common.{◌≡◌, ℕ, ◌<◌, List, Some}
use Rattle.std.specs.List.{slice_get}
use Rattle.dataflow.specs.Graph.{ways_at}
use Rattle.type_nodes.specs.declared.shape.Shape.{Shape}

-- a list of steps that is right up to a type
abbrev pub AreRight : (ways : ℕ → Shape → List ℕ) → List Shape → (graph : List (List ℕ)) → (below : ℕ) → Type 0
AreRight ways types graph below = (n : ℕ) (s : Shape) → n < below → slice_get types n ≡ Some s → ways_at graph n ≡ ways n s
