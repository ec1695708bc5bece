use Rattle.mir_func.proofs.object.area.Goals as goal

pub placed_area-requires-clause-laid : goal.placed_area-requires-clause-laid
placed_area-requires-clause-laid c = c.requires.laid.each
