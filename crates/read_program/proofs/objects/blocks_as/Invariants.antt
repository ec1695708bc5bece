use Rattle.std.proofs.Common.{◌≡◌, map, take}
use Rattle.read_program.specs.Objects.{block_as}
use Rattle.read_program.proofs.objects.blocks_as.Given as goal

abbrev pub invariant-loop-block : goal.invariant-loop-block
invariant-loop-block l = l.renamed ≡ map (block_as l.ids) (take l.block-index l.blocks)
