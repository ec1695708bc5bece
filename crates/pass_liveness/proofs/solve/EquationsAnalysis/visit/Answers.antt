use Rattle.pass_liveness.proofs.solve.EquationsAnalysis.visit.Goals as goal

pub returns : goal.returns
returns c = let v = c.visit.ensures in record { valid = v.valid; level = v.level; lower = v.lower; closed = v.closed; kept = v.kept }
