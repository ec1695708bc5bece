use Rattle.std.proofs.Common.{◌≡◌, ◌<◌, ◌++◌, ℕ, All, take, drop, get_or}
use Rattle.mir_func.specs.declared.block.Block.{Block}
use Rattle.mir_func.specs.declared.item.Item.{Item}
use Rattle.mir_func.specs.Sound.{HasForm}
use Rattle.remat_pass.specs.Remat.{set_blocks}
use Rattle.remat_pass.proofs.remat.set_blocks.Given as goal

abbrev pub invariant-loop-b : goal.invariant-loop-b
invariant-loop-b l = record {
  code : l.b-items ≡ set_blocks (take l.b-index l.fn.blocks.items) ++ drop l.b-index l.fn.blocks.items;
  forms : (k : ℕ) (d : Block) → k < l.b-index → All (λ (i : Item). HasForm i.kind) (get_or l.fn.blocks.items k d).items;
}
