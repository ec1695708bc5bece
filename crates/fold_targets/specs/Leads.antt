-- Jump-only blocks: blocks without code, or whose first code is a jump.
use Rattle.std.specs.Prelude.{ℕ, List, [], ◌∷◌, Option, Some, None, cond, nat_eq, drop}
use Rattle.mir_func.specs.rv64_instr.Row.{row_of}
use Rattle.mir_func.specs.declared.block.Block.{Block}
use Rattle.mir_func.specs.declared.exit.Exit.{Exit}
use Rattle.mir_func.specs.declared.exit.Exit.TheVariants.{Onward, Perhaps, Always, Final}
use Rattle.mir_func.specs.declared.item.Item.{Item}
use Rattle.mir_func.specs.declared.item.ItemKind.{ItemKind}
use Rattle.mir_func.specs.declared.item.ItemKind.TheVariants.{Code, Mark, Phi}
use Rattle.mir_func.specs.Exits.{row_exit}

-- the number of the first of these blocks
abbrev pub first_id : List Block → Option ℕ
first_id [] = None
first_id (b ∷ bs) = Some b.id

-- where control always goes after this exit, if it always goes to one block
abbrev pub always_to : Exit → Option ℕ
always_to (Always n) = Some n
always_to Onward = None
always_to (Perhaps n) = None
always_to Final = None

-- code forwards to its jump target, if it is a jump; a debug item forwards to where the items below it do
abbrev pub lead_by : ItemKind → (rest : Option ℕ) → Option ℕ
lead_by (Code i k) rest = always_to (row_exit (row_of i))
lead_by (Mark v m) rest = rest
lead_by (Phi p k) rest = rest

-- where these items forward control, with this block below: to the target of their first code, if that is a jump, or
-- below if there is no code
abbrev pub lead_of : List Item → (next : Option ℕ) → Option ℕ
lead_of [] next = next
lead_of (i ∷ is) next = lead_by i.kind (lead_of is next)

-- where the block with this number forwards control, if it is one of these and jump-only
abbrev pub lead_in : List Block → ℕ → Option ℕ
lead_in [] n = None
lead_in (b ∷ bs) n = cond (nat_eq b.id n) (lead_of b.items (first_id bs)) (lead_in bs n)

-- where the block with this number forwards control, if it is jump-only. The first block never is
abbrev pub lead : List Block → ℕ → Option ℕ
lead blocks n = lead_in (drop 1 blocks) n
