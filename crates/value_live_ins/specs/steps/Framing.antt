-- What the flow analysis requires of a function's blocks with the frame.
use Rattle.std.specs.Prelude.{◌≡◌, ℕ, List, All, Some, slice_get}
use Rattle.mir_func.specs.declared.block.Block.{Block}
use Rattle.mir_func.specs.declared.exit.Exit.TheVariants.{Onward}
use Rattle.mir_func.specs.declared.item.Item.{Item}
use Rattle.mir_func.specs.Exits.{exit_of}
use Rattle.mir_func.specs.Sound.{AreApart, ids_of, AllItems, TargetsIn, EndsWell}
use Rattle.mir_func.specs.SoundFrame.{body_of}

-- the prologue is straight-line code; the other blocks end well and have distinct numbers, to which all branches lead
pub record AreBlocks (blocks : List Block) : Type 0 where
  pub prologue : (block : Block) → slice_get blocks 0 ≡ Some block → (k : ℕ) (i : Item) → slice_get block.items k ≡ Some i → exit_of i.kind ≡ Onward
  pub ends : All (λ b. EndsWell b.items) (body_of blocks)
  pub apart : AreApart (ids_of (body_of blocks))
  pub targets : AllItems (λ i. TargetsIn (ids_of (body_of blocks)) i.kind) blocks
