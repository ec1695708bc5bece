-- Which blocks are kept: those reachable once every edge leads to the end of its chain.
use Rattle.std.specs.Prelude.{◌≡◌, ◌⊎◌, ℕ, List, [], ◌∷◌, Option, Some, None, cond, nat_eq}
use Rattle.mir_func.specs.declared.block.Block.{Block}
use Rattle.fold_targets.specs.Leads.{first_id}
use Rattle.fold_rule.specs.declared.ways.Ways.{Ways}
use Rattle.fold_rule.specs.Tails.{ways_of}

-- the outgoing edges of the block with this number
abbrev pub ways_in : List Block → ℕ → Option Ways
ways_in [] n = None
ways_in (b ∷ bs) n = cond (nat_eq b.id n) (Some (ways_of b.items (first_id bs))) (ways_in bs n)

-- one of the edges goes to the block
abbrev pub LeadTo : Ways → (block : ℕ) → Type 0
LeadTo w n = (w.branch ≡ Some n) ⊎ (w.onward ≡ Some n)

-- reachability: the first block is reached, and for each edge of a reached block the end of its chain is
pub data Reached (blocks : List Block) (end : ℕ → ℕ) : ℕ → Type 0 where
  first : {n : ℕ} → first_id blocks ≡ Some n → Reached blocks end n
  onward : {b n : ℕ} (w : Ways) → Reached blocks end b → ways_in blocks b ≡ Some w → LeadTo w n → Reached blocks end (end n)
