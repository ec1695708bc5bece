use Rattle.std.proofs.Common.{◌≡◌, ◌<◌, ℕ, []}
use Rattle.std.specs.Prelude.{Some, slice_get, slice_index_or}
use Rattle.mir_func.specs.declared.block.Block.{Block}
use Rattle.dce_salvage.specs.SalvageBlocks.{HasNoCopies}
use Rattle.dce_salvage.proofs.salvage_blocks.has_copies.Given as goal

abbrev pub invariant-loop-block : goal.invariant-loop-block
invariant-loop-block l = (b : ℕ) (x : Block) → b < l.block → slice_get l.blocks b ≡ Some x → HasNoCopies (slice_index_or l.dead b []) x.items
