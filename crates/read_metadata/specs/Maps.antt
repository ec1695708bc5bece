-- Metadata as finite maps: nodes by their numbers, and subprograms by the names of their functions.
use Rattle.std.specs.Prelude.{ℕ, if◌then◌else◌, refl, map, List, Vec}
use Rattle.std.specs.Ordering.{nat_cmp}
use Rattle.std.specs.declared.cmp.Ordering.{Ordering}
use Rattle.std.specs.Cmp.Lexicographic.{slice_cmp}
use Rattle.std.specs.Coded.{Coded, code_by, coded×, coded_ℕ, coded_list}
use Rattle.std.specs.FinMap as finite
use Rattle.std.specs.FinMap.{FinMap}
use Rattle.read_metadata.specs.declared.node.Node.{Node}

-- Nodes by their numbers, and subprograms by the names of their functions.
pub record Maps : Type 0 where
  pub nodes : FinMap nat_cmp Node
  pub subprograms : FinMap (slice_cmp nat_cmp) ℕ

-- the representation of metadata: the pair of its maps
abbrev pub maps_code : Coded Node → Coded Maps
maps_code node = code_by (FinMap nat_cmp Node × FinMap (slice_cmp nat_cmp) ℕ) (coded× (finite.code coded_ℕ node) (finite.code (coded_list coded_ℕ) coded_ℕ))
    (λ m. (m.nodes, m.subprograms)) (λ p. record { nodes = p.0; subprograms = p.1 }) (λ _. refl)

-- the map of nodes with these entries; of several with one number the first counts
abbrev pub nodes_in : List (ℕ × Node) → FinMap nat_cmp Node
nodes_in entries = finite.from_entries entries

-- entries with their keys as lists of bytes
abbrev pub by_bytes : {Z : Type 0} → List (Vec ℕ Z × ℕ) → List (List ℕ × ℕ)
by_bytes entries = map (λ e. (e.0.items, e.1)) entries

-- the map of subprograms with these entries; of several with one name the first counts
abbrev pub subprograms_in : {Z : Type 0} → List (Vec ℕ Z × ℕ) → FinMap (slice_cmp nat_cmp) ℕ
subprograms_in entries = finite.from_entries (by_bytes entries)

-- the metadata that a contract sees for maps with these entries
abbrev pub seen : {Z : Type 0} → List (ℕ × Node) → List (Vec ℕ Z × ℕ) → Maps
seen nodes subprograms = record { nodes = nodes_in nodes; subprograms = subprograms_in subprograms }

-- metadata without nodes and subprograms
abbrev pub no_metadata : Maps
no_metadata = record { nodes = finite.empty; subprograms = finite.empty }

-- a map with a new entry, unless its key is in the map already
abbrev pub with_new : {K X : Type 0} {R : K → K → Ordering} → FinMap R X → K → X → FinMap R X
with_new m k v = if finite.contains_key m k then m else finite.insert m k v

-- metadata with a new node, unless its number is taken
abbrev pub with_node : Maps → ℕ → Node → Maps
with_node m number node = record { nodes = with_new m.nodes number node; subprograms = m.subprograms }

-- metadata with the subprogram of a function, unless the function's name is taken
abbrev pub with_subprogram : Maps → List ℕ → ℕ → Maps
with_subprogram m name number = record { nodes = m.nodes; subprograms = with_new m.subprograms name number }
