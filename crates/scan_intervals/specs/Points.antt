-- The code of a function in the order of its text, with what is live around it. The index of a point is its code's number (LLVM: slot indexes).
use Rattle.std.specs.Prelude.{ℕ, List, [], ◌∷◌, ◌++◌, Option, Some, None, Bool}
use Rattle.rv64_instr.specs.declared.place.Place.{Place}
use Rattle.rv64_instr.specs.declared.place.Place.TheVariants.{Register}
use Rattle.rv64_instr.specs.Instruction.{Instruction}
use Rattle.mir_func.specs.declared.block.Block.{Block}
use Rattle.mir_func.specs.declared.item.Item.{Item}
use Rattle.mir_func.specs.declared.item.ItemKind.{ItemKind}
use Rattle.mir_func.specs.declared.item.ItemKind.TheVariants.{Code, Mark, Phi}
use Rattle.mir_func.specs.Exits.{exit_of}
use Rattle.pass_liveness.specs.Walk.{live_across, live_from}

-- code, and which registers are live right before and right after it
pub record CodePoint : Type 0 where
  pub code : Instruction
  pub before : ℕ → Bool
  pub after : ℕ → Bool

-- the number of the block that comes next, if there is one
abbrev pub next_of : List Block → Option ℕ
next_of [] = None
next_of (b ∷ bs) = Some b.id

-- the point of an item, before those of the items below it. A debug item has none
abbrev pub with_point : ItemKind → (Instruction → CodePoint) → List CodePoint → List CodePoint
with_point (Code i k) make rest = make i ∷ rest
with_point (Mark v m) make rest = rest
with_point (Phi p k) make rest = rest

module _ (starts : ℕ → Place → Bool) where
  -- whether a register is live right before the first of these items, the last ones of a block
  abbrev pub is_live_before : List Item → (next : Option ℕ) → ℕ → Bool
  is_live_before items next r = live_from starts items next (Register r)

  -- whether it is live right after an item of this kind that comes before them
  abbrev pub is_live_after : ItemKind → List Item → (next : Option ℕ) → ℕ → Bool
  is_live_after kind items next r = live_across starts (exit_of kind) (live_from starts items next (Register r)) (Register r)

  -- the points of the last items of a block
  abbrev pub points_in : List Item → (next : Option ℕ) → List CodePoint
  points_in [] next = []
  points_in (i ∷ is) next =
      with_point i.kind (λ code. record { code = code; before = is_live_before (i ∷ is) next; after = is_live_after i.kind is next }) (points_in is next)

  -- the points of blocks
  abbrev pub points_of : List Block → List CodePoint
  points_of [] = []
  points_of (b ∷ bs) = points_in b.items (next_of bs) ++ points_of bs
