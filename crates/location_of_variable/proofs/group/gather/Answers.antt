use Rattle.std.proofs.Common.{refl}
use Rattle.std.proofs.lemmas.Option.{slice_get_read}
use Rattle.location_of_variable.proofs.group.gather.Goals as goal

pub loop-j-preserved : goal.loop-j-preserved
loop-j-preserved c =
    c.in_ok-gather_part.ensures.gathered c.args.parts.now c.args.count
    (slice_get_read c.args.parts.now _ c.loop-j.j c.index-parts-j.result refl c.loop-j-test.true c.index-parts-j.is) c.loop-j.invariant
