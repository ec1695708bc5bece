-- The graphs of the walks between types. A type is named by its index.
use Rattle.std.specs.Prelude.{◌≡◌, ◌<◌, ◌&&◌, ℕ, Bool, Some, List, [], cond, nat_lt, length, map}
use Rattle.std.specs.List.{filter, slice_get}
use Rattle.dataflow.specs.Graph.{ways_at}
use Rattle.graph_cycles.specs.Ends.{is_marked}
use Rattle.type_nodes.specs.declared.shape.Shape.{Shape}
use Rattle.type_nodes.specs.declared.shape.Walk.{Walk}
use Rattle.type_nodes.specs.Standing.{made_of, targets}

-- the steps from each type are those that a rule gives by its index and by what it is
pub record IsGraphOf (ways : ℕ → Shape → List ℕ) (types : List Shape) (graph : List (List ℕ)) : Type 0 where
  pub long : length graph ≡ length types
  pub each : (n : ℕ) (s : Shape) → slice_get types n ≡ Some s → ways_at graph n ≡ ways n s

-- the step to what a type is made of, and to itself where that is no type
abbrev pub chain_ways : (types : ℕ) → ℕ → Shape → List ℕ
chain_ways types n s = map (λ m. cond (nat_lt m types) m n) (made_of s)

-- the steps of a walk between the marked types
abbrev pub step_ways : (walk : Walk) → (marks : List Bool) → ℕ → Shape → List ℕ
step_ways walk marks n s = cond (is_marked marks n) (filter (is_marked marks) (targets walk s)) []

-- what is marked three times
pub record AreAll (a b c marks : List Bool) : Type 0 where
  pub long : length marks ≡ length a
  pub each : (n : ℕ) → n < length a → is_marked marks n ≡ (is_marked a n && is_marked b n && is_marked c n)
