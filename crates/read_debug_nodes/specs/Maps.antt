-- Debug metadata as a finite map of nodes by their numbers, with the language of the unit.
use Rattle.std.specs.Prelude.{ℕ, if◌then◌else◌, refl, List}
use Rattle.std.specs.Ordering.{nat_cmp}
use Rattle.std.specs.Coded.{Coded, code_by, coded×, coded_ℕ}
use Rattle.std.specs.FinMap as finite
use Rattle.std.specs.FinMap.{FinMap}
use Rattle.read_debug_nodes.specs.declared.node.DebugNode.{DebugNode}
use Rattle.read_debug_nodes.specs.Codes.{DW_LANG_C99}

-- Nodes by their numbers, and the language of the unit.
pub record DebugMaps : Type 0 where
  pub nodes : FinMap nat_cmp DebugNode
  pub language : ℕ

-- the representation of metadata: the pair of the map and the language
abbrev pub maps_code : Coded DebugNode → Coded DebugMaps
maps_code node = code_by (FinMap nat_cmp DebugNode × ℕ) (coded× (finite.code coded_ℕ node) coded_ℕ)
    (λ m. (m.nodes, m.language)) (λ p. record { nodes = p.0; language = p.1 }) (λ _. refl)

-- the metadata that a contract sees for a map with these entries
abbrev pub seen : List (ℕ × DebugNode) → ℕ → DebugMaps
seen entries code = record { nodes = finite.from_entries entries; language = code }

-- metadata without nodes
abbrev pub no_metadata : DebugMaps
no_metadata = record { nodes = finite.empty; language = DW_LANG_C99 }

-- metadata with a new node and the language behind it, unless the node's number is taken
abbrev pub with_node : DebugMaps → ℕ → DebugNode → (code : ℕ) → DebugMaps
with_node m number node code =
    if finite.contains_key m.nodes number then m else record { nodes = finite.insert m.nodes number node; language = code }

-- the numbers of all nodes, ascending
abbrev pub numbers_of : DebugMaps → List ℕ
numbers_of m = finite.keys m.nodes
