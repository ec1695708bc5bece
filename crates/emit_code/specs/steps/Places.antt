-- The number of items before a block.
use Rattle.std.specs.Prelude.{◌≡◌, ℕ, suc, ◌+◌, List, [], ◌∷◌, length, take, sum_by, cond, nat_eq, Option, Some, None}
use Rattle.std.specs.Ordering.{nat_cmp}
use Rattle.std.specs.BTreeMap.{get}
use Rattle.mir_func.specs.declared.block.Block.{Block}
use Rattle.mir_func.specs.Graph.{index_of}
use Rattle.mir_func.specs.SoundFrame.{body_of}
use Rattle.emit_code.specs.declared.table.Table.{Table}

abbrev pub items_count : List Block → ℕ
items_count blocks = sum_by (λ b. length b.items) blocks

-- the number of items before each block, counted from n, and last the total
abbrev pub firsts_from : ℕ → List Block → List ℕ
firsts_from n [] = n ∷ []
firsts_from n (b ∷ blocks) = n ∷ firsts_from (n + length b.items) blocks

-- the index of the block with this number in a list. The first block of the list has index k
abbrev pub index_in : (index : ℕ) → List Block → (id : ℕ) → Option ℕ
index_in k [] n = None
index_in k (b ∷ blocks) n = cond (nat_eq b.id n) (Some k) (index_in (suc k) blocks n)

-- the number of items before the block with this number, the prologue's included
abbrev pub first_of : List Block → (id : ℕ) → ℕ
first_of blocks n = items_count (take (suc (index_of (body_of blocks) n)) blocks)

pub record IsTableOf (blocks : List Block) (t : Table) : Type 0 where
  pub firsts : t.firsts ≡ firsts_from 0 blocks
  pub count : t.count ≡ items_count blocks
  pub indices : (n : ℕ) → get nat_cmp t.indices n ≡ index_in 1 (body_of blocks) n
