use Rattle.place_liveness.proofs.place.UpwardCrossing.crosses.Goals as goal

pub returns : goal.returns
returns c = c.passes_up.ensures
