use Rattle.std.proofs.Common.{◌+◌, ◌*◌, ◌<◌, ◌^◌, length, arith, subst}
use Rattle.std.specs.Prelude.{All}
use Rattle.emit_code.specs.declared.code.EncodedInstruction.{EncodedInstruction}
use Rattle.emit_code.specs.Laid.{LaidCode, StandFrom}
use Rattle.location_ranges.specs.steps.Walk.{IsPointIn}
use Rattle.location_ranges.proofs.Walking.{points_in}
use Rattle.kept_ranges.proofs.Entries.{low}
use Rattle.kept_ranges.proofs.ranges.entries_of.Goals as goal

pub returns-clause-stand : goal.returns-clause-stand
returns-clause-stand c = subst (λ (z : LaidCode). StandFrom z.base z.entries (z.base + 4 * length z.words)) c.code.view_is c.code.invariant.stand

pub returns-clause-points : goal.returns-clause-points
returns-clause-points c =
    subst (λ (z : LaidCode). All (IsPointIn z.framed.blocks) z.entries) c.code.view_is
    (points_in c.code.inside.framed c.code.inside.entries c.code.invariant.items)

pub returns-clause-low : goal.returns-clause-low
returns-clause-low c =
    subst (λ (z : LaidCode). All (λ (e : EncodedInstruction). e.address < 2 ^ 63) z.entries) c.code.view_is
    (low c.code.inside.base (c.code.inside.base + 4 * length c.code.inside.words) (2 ^ 63) c.code.inside.entries c.code.invariant.stand
    (omega (arith, c.code.invariant.low, c.code.invariant.few)))
