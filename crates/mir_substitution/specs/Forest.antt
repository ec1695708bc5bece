-- The forest of pairs by the ends of their chains.
use Rattle.std.specs.Prelude.{◌≡◌, ℕ, ◌+◌, ◌<◌, ◌≤◌, List, length, Option, Some, None, cond, max, unwrap_or, nat_le}
use Rattle.std.specs.declared.hash.FoldHasher.{FoldHasher}
use Rattle.std.specs.declared.hash.BuildHasherDefault.{BuildHasherDefault}
use Rattle.std.specs.HashMap.{HashMap, get}
use Rattle.mir_func.specs.declared.debug_substitution.OperandPair.{OperandPair}
use Rattle.mir_func.specs.declared.debug_substitution.DebugSubstitution.{DebugSubstitution}
use Rattle.mir_func.specs.Resolve.{is_pair, resolve}
use Rattle.mir_substitution.specs.declared.forest.Node.{Node}
use Rattle.mir_substitution.specs.declared.forest.Root.{Root}
use Rattle.mir_substitution.specs.declared.forest.Link.{Link}
use Rattle.mir_substitution.specs.declared.forest.Link.TheVariants.{Parent, End}
use Rattle.mir_substitution.specs.Index.{key_of, is_key}

-- the node of a pair in a tree of its own
abbrev pub alone : OperandPair → Node
alone q = record { rank = 0; link = End (Some q) }

-- the node of a pair
abbrev pub node_of : HashMap (ℕ × ℕ) Node (BuildHasherDefault FoldHasher) → OperandPair → Node
node_of forest q = unwrap_or (get is_key forest (key_of q)) (alone q)

-- the forest has the end of each pair's chain
pub record AreEnds (subs : List DebugSubstitution) (node : OperandPair → Node) : Type 0 where
  -- at the root of its tree
  pub roots : (q : OperandPair) (end : Option OperandPair) → (node q).link ≡ End end → resolve subs q ≡ end
  -- which is that of its parent's, and a parent has a higher rank
  pub parents : (q p : OperandPair) → (node q).link ≡ Parent p → resolve subs q ≡ resolve subs p
  pub ranks : (q p : OperandPair) → (node q).link ≡ Parent p → (node q).rank < (node p).rank
  -- two trees don't have the same end
  pub apart : (q r p : OperandPair) → (node q).link ≡ End (Some p) → (node r).link ≡ End (Some p) → q ≡ r
  -- no rank is above the number of entries
  pub low : (q : OperandPair) → (node q).rank ≤ length subs

-- the root of the pair's tree
pub record IsRootOf (subs : List DebugSubstitution) (node : OperandPair → Node) (q : OperandPair) (root : Root) : Type 0 where
  pub here : node root.pair ≡ record { rank = root.rank; link = End root.end }
  pub ends : resolve subs q ≡ root.end

-- the nodes after a pair gets one
abbrev pub given : OperandPair → ℕ → Link → (OperandPair → Node) → OperandPair → Node
given p rank link node q = cond (is_pair p q) (record { rank = rank; link = link }) (node q)

-- the tree's chains have no end
abbrev pub ended : Root → (OperandPair → Node) → OperandPair → Node
ended root node q = cond (is_pair root.pair q) (record { rank = root.rank; link = End None }) (node q)

-- one tree below the root of another, with this end
abbrev pub placed : Root → Root → Option OperandPair → (OperandPair → Node) → OperandPair → Node
placed below above end node q =
    cond (is_pair above.pair q) (record { rank = max above.rank (below.rank + 1); link = End end })
    (cond (is_pair below.pair q) (record { rank = below.rank; link = Parent above.pair }) (node q))

-- the source's tree and the target's as one
abbrev pub united : Root → Root → (OperandPair → Node) → OperandPair → Node
united source target node = cond (nat_le source.rank target.rank) (placed source target target.end node) (placed target source target.end node)
