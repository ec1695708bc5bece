use Rattle.std.proofs.Common.{subst, ap}
use Rattle.mir_func.specs.SoundFrame.{IsFramed}
use Rattle.emit_code.specs.Laid.{LaidCode}
use Rattle.frame_table.proofs.description.framed_of.Goals as goal

pub returns-clause-sound : goal.returns-clause-sound
returns-clause-sound c =
    subst IsFramed (ap (λ (x : LaidCode). x.framed) c.code.view_is) (subst IsFramed c.framed.view_is c.framed.invariant)
