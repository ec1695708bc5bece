use Rattle.std.proofs.Common.{arith}
use Rattle.sim_machine.proofs.Words.{places_begin, places_on, places_end}
use Rattle.sim_machine.proofs.site.places_of.Goals as goal

pub loop-i-init : goal.loop-i-init
loop-i-init c = places_begin c.args.entries.now c.new-places.result.items c.new-places.ensures.items

pub loop-i-preserved : goal.loop-i-preserved
loop-i-preserved c =
    places_on c.args.entries.now c.loop-i.places.items c.add_place.new.places.items c.loop-i.i c.index-entries-i.result c.loop-i-test.true
    c.index-entries-i.is c.in_ok-add_place.ensures c.loop-i.invariant

pub returns : goal.returns
returns c = places_end c.args.entries.now c.loop-i.places.items c.loop-i.i (omega arith) c.loop-i.invariant
