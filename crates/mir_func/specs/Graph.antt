-- Functions as programs (control-flow graphs of positions), and the paths through them.
use Rattle.std.specs.Prelude.{◌≡◌, ◌⊎◌, ◌+◌, ℕ, suc, List, [], ◌∷◌, drop, Option, Bool, false, cond, nat_eq}
use Rattle.rv64_instr.specs.Row.{Row}
use Rattle.mir_func.specs.declared.position.Pos.{Pos}
use Rattle.mir_func.specs.declared.block.Block.{Block}
use Rattle.mir_func.specs.declared.debug_substitution.OperandPair.{OperandPair}
use Rattle.mir_func.specs.declared.item.Item.{Item}
use Rattle.mir_func.specs.declared.item.ItemKind.{ItemKind}
use Rattle.mir_func.specs.declared.exit.Exit.{Exit}
use Rattle.mir_func.specs.declared.exit.Exit.TheVariants.{Onward, Perhaps, Always, Final}
use Rattle.mir_func.specs.Exits.{row_exit, exit_of, leads_back}
use Rattle.mir_func.specs.SoundFrame.{body_of}

-- what is at a position
pub data Fetch : Type 0 where
  Here : Item → Fetch
  -- a block's end: its silent index in the source, and the block that comes next
  EndOfBlock : (index next : ℕ) → Fetch
  Outside : Fetch

-- the position is that of an item that leads back to the caller
abbrev pub is_return : Fetch → Bool
is_return (Here i) = leads_back i.kind
is_return (EndOfBlock k n) = false
is_return Outside = false

-- a function as a program
pub record Program : Type 0 where
  pub fetch : Pos → Fetch
  -- the block of the positions at a branch's target
  pub enter : ℕ → ℕ
  -- what pairs resolve to
  pub resolve : OperandPair → Option OperandPair
  -- whether marks and numbers see the content of x2: they do in the source alone
  pub sees_pointer : Bool

-- the position below
abbrev pub below : Pos → Pos
below p = record { block = p.block; item = p.item + 1 }

-- the first position of a block
abbrev pub block_start : ℕ → Pos
block_start n = record { block = n; item = 0 }

-- the end of a block with this silent index, before these blocks; the last block's end is outside
abbrev pub end_of : (source_end : ℕ) → List Block → Fetch
end_of k [] = Outside
end_of k (b ∷ bs) = EndOfBlock k b.id

-- the first of the items, or the block's end if no item is left
abbrev pub front : List Item → (source_end : ℕ) → List Block → Fetch
front [] k bs = end_of k bs
front (i ∷ is) k bs = Here i

-- the item of this index in the first of the blocks, or that block's end
abbrev pub fetch_in : List Block → ℕ → Fetch
fetch_in [] n = Outside
fetch_in (b ∷ bs) n = front (drop n b.items) b.source_end bs

-- the blocks from the one with this number on
abbrev pub from_block : List Block → ℕ → List Block
from_block [] n = []
from_block (b ∷ bs) n = cond (nat_eq b.id n) (b ∷ bs) (from_block bs n)

-- the items of the first of the blocks from an index on
abbrev pub rest_in : List Block → ℕ → List Item
rest_in [] n = []
rest_in (b ∷ bs) n = drop n b.items

-- the items from a position to its block's end
abbrev pub rest_of : List Block → Pos → List Item
rest_of blocks p = rest_in (from_block blocks p.block) p.item

-- a function as a program, in whose positions a block is a block's number
abbrev pub program_of : (sees_pointer : Bool) → List Block → (OperandPair → Option OperandPair) → Program
program_of sp blocks resolve = record { fetch = λ p. fetch_in (from_block blocks p.block) p.item; enter = λ n. n; resolve = resolve; sees_pointer = sp }

-- the index of the first block with this number, or the number of blocks if none has it
abbrev pub index_of : List Block → ℕ → ℕ
index_of [] n = 0
index_of (b ∷ bs) n = cond (nat_eq b.id n) 0 (suc (index_of bs n))

-- a function with its frame as a program, in whose positions a block is a block's index; a branch
-- enters a block after the prologue
abbrev pub framed_program : List Block → (OperandPair → Option OperandPair) → Program
framed_program blocks resolve =
    record { fetch = λ p. fetch_in (drop p.block blocks) p.item; enter = λ n. suc (index_of (body_of blocks) n); resolve = resolve; sees_pointer = false }

-- the control-flow edges by an exit: to the position below, to the start of the target's block, or none
abbrev pub ExitEdge : (ℕ → ℕ) → Exit → Pos → Pos → Type 0
ExitEdge enter Onward p q = q ≡ below p
ExitEdge enter (Perhaps n) p q = (q ≡ block_start (enter n)) ⊎ (q ≡ below p)
ExitEdge enter (Always n) p q = q ≡ block_start (enter n)
ExitEdge enter Final p q = ⊥

-- the control-flow edges from code of a row
abbrev pub RowEdge : (ℕ → ℕ) → Row → Pos → Pos → Type 0
RowEdge enter row p q = ExitEdge enter (row_exit row) p q

-- the control-flow edges from an item: from a debug item only to the position below
abbrev pub KindEdge : (ℕ → ℕ) → ItemKind → Pos → Pos → Type 0
KindEdge enter kind p q = ExitEdge enter (exit_of kind) p q

-- the control-flow edges from what is at a position: from a block's end to the next block
abbrev pub FetchEdge : (ℕ → ℕ) → Fetch → Pos → Pos → Type 0
FetchEdge enter (Here i) p q = KindEdge enter i.kind p q
FetchEdge enter (EndOfBlock k n) p q = q ≡ block_start (enter n)
FetchEdge enter Outside p q = ⊥

-- there is a control-flow edge from one position to the other
abbrev pub Edge : Program → Pos → Pos → Type 0
Edge g p q = FetchEdge g.enter (g.fetch p) p q

-- a path leads from one position to the other
pub data Leads (g : Program) : Pos → Pos → Type 0 where
  stay : {p : Pos} → Leads g p p
  go : {p q r : Pos} → Edge g p q → Leads g q r → Leads g p r
