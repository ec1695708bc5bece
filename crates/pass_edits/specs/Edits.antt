-- Edits of blocks: copies are removed, DBG_PHIs are added before copies, and code gets another number or none.
use Rattle.std.specs.Prelude.{◌≡◌, ℕ, List, [], ◌∷◌, Option}
use Rattle.rv64_instr.specs.Instruction.{Instruction}
use Rattle.rv64_instr.specs.Row.{Moves, row_of}
use Rattle.mir_func.specs.declared.block.Block.{Block}
use Rattle.mir_func.specs.declared.item.Item.{Item}
use Rattle.mir_func.specs.declared.item.ItemKind.{ItemKind}
use Rattle.mir_func.specs.declared.item.ItemKind.TheVariants.{Code, Mark, Phi}
use Rattle.mir_func.specs.Function.{Function}
use Rattle.mir_func.specs.Sound.{items_of, NumbersOnce, IsSound}
use Rattle.pass_salvage.specs.Salvage.{phi_for}

-- the kinds are the same except for the number of code
pub data SameButNumber : ItemKind → ItemKind → Type 0 where
  same_code : {i : Instruction} {n m : Option ℕ} → SameButNumber (Code i n) (Code i m)
  same_kind : {k : ItemKind} → SameButNumber k k

-- a register copy
abbrev pub IsMove : ItemKind → Type 0
IsMove (Code i n) = (rd : ℕ) × (s : ℕ) × (row_of i ≡ Moves rd s)
IsMove (Mark v m) = ⊥
IsMove (Phi p k) = ⊥

-- the items of a block, item by item
pub data AreEdited : List Item → List Item → Type 0 where
  no_items : AreEdited [] []
  stays : {x y : Item} {xs ys : List Item} → y.origin ≡ x.origin → SameButNumber x.kind y.kind → AreEdited xs ys → AreEdited (x ∷ xs) (y ∷ ys)
  with_phi : {x y : Item} {xs ys : List Item} (k s : ℕ) → IsMove x.kind → y.origin ≡ x.origin → SameButNumber x.kind y.kind → AreEdited xs ys →
      AreEdited (x ∷ xs) (phi_for k s x.origin ∷ y ∷ ys)
  goes : {x : Item} {xs ys : List Item} → IsMove x.kind → AreEdited xs ys → AreEdited (x ∷ xs) ys

-- the blocks of a function; their numbers and silent indices are unchanged
pub data AreBlocksEdited : List Block → List Block → Type 0 where
  no_blocks : AreBlocksEdited [] []
  next_block : {a b : Block} {fs gs : List Block} → b.id ≡ a.id → b.source_end ≡ a.source_end → AreEdited a.items b.items → AreBlocksEdited fs gs →
      AreBlocksEdited (a ∷ fs) (b ∷ gs)

-- a sound function stays sound under such edits, if its slots and stack objects are unchanged, and no number of code is
-- on another item
abbrev pub EditsKeepSound : Type 0
EditsKeepSound = (old new : Function) → IsSound old → new.slots ≡ old.slots → new.objects ≡ old.objects → AreBlocksEdited old.blocks new.blocks →
    NumbersOnce (items_of new.blocks) → IsSound new
