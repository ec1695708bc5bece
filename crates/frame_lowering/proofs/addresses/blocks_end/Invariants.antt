use Rattle.std.proofs.Common.{◌≡◌, drop}
use Rattle.frame_rule.specs.Rule.{blocks_end}
use Rattle.frame_lowering.proofs.addresses.blocks_end.Given as goal

abbrev pub invariant-loop-block : goal.invariant-loop-block
invariant-loop-block l = blocks_end l.own l.objects l.greatest (drop l.block-index l.blocks) ≡ blocks_end l.own l.objects l.end l.blocks
