use Rattle.dwarf_frame.specs.FirstFault.{HasSize}
use Rattle.dwarf_frame.proofs.WriteLoops.{at_item, sizes_fit}
use Rattle.debug_content.proofs.frames.frame_pieces.Goals as goal

pub push_pieces-requires-clause-size : goal.push_pieces-requires-clause-size
push_pieces-requires-clause-size c = at_item HasSize _ _ _ c.loop-function-test.true c.function-item.is (sizes_fit _ _ c.requires.size)
