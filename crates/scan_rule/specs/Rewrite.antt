-- A function in which virtual registers are replaced by physical ones.
use Rattle.std.specs.Prelude.{ℕ, ◌+◌, List, [], ◌∷◌, map, Option, Some, None, Bool, cond}
use Rattle.rv64_instr.specs.declared.place.Place.{Place}
use Rattle.rv64_instr.specs.declared.place.Place.TheVariants.{Register, Slot, Const}
use Rattle.mir_func.specs.declared.block.Block.{Block}
use Rattle.mir_func.specs.declared.item.Item.{Item}
use Rattle.mir_func.specs.declared.item.ItemKind.{ItemKind}
use Rattle.mir_func.specs.declared.item.ItemKind.TheVariants.{Code, Mark, Phi}
use Rattle.mir_func.specs.declared.position.Pos.{Pos}
use Rattle.mir_func.specs.declared.variable.MarkValue.{MarkValue}
use Rattle.mir_func.specs.declared.variable.MarkValue.TheVariants.{Nothing, Constant, At, Pair}
use Rattle.mir_func.specs.Function.{Function}
use Rattle.scan_allocation.specs.spill_code.Rewrite.{renamed_code}
use Rattle.scan_allocation.specs.Coloring.{now}

-- the value of a debug value: that of a register names the new one, or is undef
abbrev pub value_now : (given : ℕ → Option ℕ) (silent : ℕ → Bool) → MarkValue → MarkValue
value_now given silent Nothing = Nothing
value_now given silent (Constant n) = Constant n
value_now given silent (At r) = cond (silent r) Nothing (At (now given r))
value_now given silent (Pair q) = Pair q

-- the location of a DBG_PHI: that of a register names the new one, or is undef
abbrev pub place_now : (given : ℕ → Option ℕ) (silent : ℕ → Bool) → Option Place → Option Place
place_now given silent None = None
place_now given silent (Some (Register r)) = cond (silent r) None (Some (Register (now given r)))
place_now given silent (Some (Slot n)) = Some (Slot n)
place_now given silent (Some (Const c)) = Some (Const c)

-- an item of this kind: explicit operands of code name the new registers
abbrev pub kind_now : (given : ℕ → Option ℕ) (silent : ℕ → Bool) → ItemKind → ItemKind
kind_now given silent (Code i k) = Code (renamed_code (now given) (now given) i) k
kind_now given silent (Mark v m) = Mark v (value_now given silent m)
kind_now given silent (Phi p k) = Phi (place_now given silent p) k

module _ (given : ℕ → Option ℕ) (silent : Pos → ℕ → Bool) where
  -- the item at a position
  abbrev pub item_now : Pos → Item → Item
  item_now p i = record { kind = kind_now given (silent p) i.kind; origin = i.origin; loc = i.loc }

  -- the items of a block, from the one with index n on
  abbrev pub items_now : (block n : ℕ) → List Item → List Item
  items_now b n [] = []
  items_now b n (i ∷ is) = item_now (record { block = b; item = n }) i ∷ items_now b (n + 1) is

  abbrev pub block_now : Block → Block
  block_now b = record { id = b.id; items = items_now b.id 0 b.items; source_end = b.source_end }

  abbrev pub blocks_now : List Block → List Block
  blocks_now blocks = map block_now blocks

  -- the function
  abbrev pub allotted : Function → Function
  allotted f = record f { blocks = blocks_now f.blocks }
