use Rattle.mir_func.proofs.sound_objects.are_laid.Goals as goal

pub placed_area-requires-clause-laid : goal.placed_area-requires-clause-laid
placed_area-requires-clause-laid c = c.are_placed.ensures.0 c.if-not-are_placed.false
