-- Equality of functions' code, whatever their debug items, numbers, origins and debug locations are.
use Rattle.std.specs.Prelude.{◌≡◌, ℕ, List, [], ◌∷◌, Option, false}
use Rattle.rv64_instr.specs.Instruction.{Instruction}
use Rattle.mir_func.specs.declared.block.Block.{Block}
use Rattle.mir_func.specs.declared.item.Item.{Item}
use Rattle.mir_func.specs.declared.item.ItemKind.TheVariants.{Code}
use Rattle.sem_mir.specs.Align.{is_code}

-- both have the same instructions in order; debug items may be anywhere
pub data SameItems : List Item → List Item → Type 0 where
  none : SameItems [] []
  both : {xs ys : List Item} (x y : Item) (i : Instruction) (n m : Option ℕ) → x.kind ≡ Code i n → y.kind ≡ Code i m → SameItems xs ys →
      SameItems (x ∷ xs) (y ∷ ys)
  first : {xs ys : List Item} (x : Item) → is_code x.kind ≡ false → SameItems xs ys → SameItems (x ∷ xs) ys
  second : {xs ys : List Item} (y : Item) → is_code y.kind ≡ false → SameItems xs ys → SameItems xs (y ∷ ys)

-- both have the same block numbers in order, each with the same code
pub data SameBlocks : List Block → List Block → Type 0 where
  no_blocks : SameBlocks [] []
  one_more : {us vs : List Block} (a b : Block) → a.id ≡ b.id → SameItems a.items b.items → SameBlocks us vs → SameBlocks (a ∷ us) (b ∷ vs)
