use Rattle.std.proofs.Common.{◌≡◌, take}
use Rattle.frame_lowering.specs.steps.Framing.{framed_items_in}
use Rattle.frame_lowering.proofs.blocks.framed_items.Given as goal

abbrev pub invariant-loop-i : goal.invariant-loop-i
invariant-loop-i l = l.made ≡ framed_items_in l.frame (take l.i-index l.items)
