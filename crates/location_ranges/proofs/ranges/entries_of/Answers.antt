use Rattle.std.proofs.Common.{◌+◌, ◌*◌, length, subst}
use Rattle.std.specs.Prelude.{All}
use Rattle.emit_code.specs.Laid.{LaidCode, StandFrom}
use Rattle.location_ranges.specs.steps.Walk.{IsPointIn}
use Rattle.location_ranges.proofs.Walking.{points_in}
use Rattle.location_ranges.proofs.ranges.entries_of.Goals as goal

pub returns-clause-stand : goal.returns-clause-stand
returns-clause-stand c = subst (λ (z : LaidCode). StandFrom z.base z.entries (z.base + 4 * length z.words)) c.code.view_is c.code.invariant.stand

pub returns-clause-points : goal.returns-clause-points
returns-clause-points c =
    subst (λ (z : LaidCode). All (IsPointIn z.framed.blocks) z.entries) c.code.view_is
    (points_in c.code.inside.framed c.code.inside.entries c.code.invariant.items)
