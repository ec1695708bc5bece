-- Branch folding: every branch through jump-only blocks goes directly to the end of its chain, unreachable blocks are deleted, and the
-- terminators of the kept blocks are rewritten.
use Rattle.std.specs.Prelude.{◌≡◌, ◌↔◌, ℕ, List, [], ◌∷◌, Option, Bool, cond, filter, IsTrue}
use Rattle.mir_func.specs.declared.block.Block.{Block}
use Rattle.mir_func.specs.Function.{Function}
use Rattle.fold_targets.specs.Ways.{EndsAt}
use Rattle.fold_targets.specs.Leads.{first_id, lead}
use Rattle.fold_rule.specs.Tails.{rewritten}
use Rattle.fold_rule.specs.Reached.{Reached}

-- a block with its terminators rewritten; `next` comes next among the kept blocks, and `fall` among all
abbrev pub folded_block : (end : ℕ → ℕ) (next fall : Option ℕ) → Block → Block
folded_block end next fall b = record b { items = rewritten end next fall (record { block = b.id; item = b.source_end }) b.items }

-- the blocks that are kept
abbrev pub staying : (stays : ℕ → Bool) → List Block → List Block
staying stays blocks = filter (λ b. stays b.id) blocks

-- the kept blocks, in the order of the text, with their terminators rewritten
abbrev pub folded_blocks : (end : ℕ → ℕ) (stays : ℕ → Bool) → List Block → List Block
folded_blocks end stays [] = []
folded_blocks end stays (b ∷ bs) =
    cond (stays b.id) (folded_block end (first_id (staying stays bs)) (first_id bs) b ∷ folded_blocks end stays bs) (folded_blocks end stays bs)

-- the blocks are folded: `end` maps each block to the end of its chain, and `stays` has the reachable blocks
pub record AreFolded (old new : List Block) : Type 0 where
  pub end : ℕ → ℕ
  pub stays : ℕ → Bool
  pub ends : (n : ℕ) → EndsAt (lead old) n (end n)
  pub reached : (n : ℕ) → IsTrue (stays n) ↔ Reached old end n
  pub blocks : new ≡ folded_blocks end stays old

-- the function's blocks are folded, and nothing else in it is changed
abbrev pub IsFolded : Function → Function → Type 0
IsFolded f g = AreFolded f.blocks g.blocks × (g ≡ record f { blocks = g.blocks })
