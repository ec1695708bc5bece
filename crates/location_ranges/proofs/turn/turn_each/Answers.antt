use Rattle.std.proofs.Common.{refl, arith}
use Rattle.std.proofs.lemmas.Option.{slice_get_read}
use Rattle.location_ranges.proofs.turn.turn_each.Goals as goal

pub turn_if-requires : goal.turn_if-requires
turn_if-requires c = λ some free.
    let k = c.loop-k.k in
    let group = c.index-groups-k.result in
    let track = c.index_mut.result.now in
    let inv = c.loop-k.invariant in
    let at_group = slice_get_read c.args.groups.now _ k group refl c.loop-k-test.true c.index-groups-k.is in
    let at_track = slice_get_read c.loop-k.tracks.items _ k track refl (omega (arith, c.loop-k-test.true, c.requires.tracks, inv.for_all))
    c.index_mut.ensures.value in
    c.requires.still some k group track at_group (inv.rest k track (omega arith) at_track) free
