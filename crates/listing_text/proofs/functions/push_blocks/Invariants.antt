use Rattle.std.proofs.Common.{◌≡◌, ◌++◌, take}
use Rattle.std.specs.List.{flat_map}
use Rattle.listing_text.specs.Output.{block_text}
use Rattle.listing_text.proofs.functions.push_blocks.Given as goal

abbrev pub invariant-loop-block : goal.invariant-loop-block
invariant-loop-block l = l.text ≡ l.initial.text ++ flat_map block_text (take l.block-index l.blocks)
