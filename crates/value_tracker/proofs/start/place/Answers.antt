use Rattle.std.proofs.Common.{◌≡◌, ℕ, length, refl, arith, subst}
use Rattle.std.proofs.lemmas.Option.{slice_get_read}
use Rattle.value_tracker.specs.Start.{PlacedBelow}
use Rattle.value_tracker.proofs.Starting.{placed_none, placed_more}
use Rattle.value_tracker.proofs.start.place.Goals as goal

pub loop-i-init : goal.loop-i-init
loop-i-init c = record { count = c.requires.count; placed = placed_none c.args.things.now c.args.settled.now c.args.places.now.items c.requires.empty }

pub loop-i-preserved : goal.loop-i-preserved
loop-i-preserved c = record {
  count = c.set_place.ensures.count;
  placed = placed_more c.args.things.now c.args.settled.now c.loop-i.i c.index-things-i.result
      (slice_get_read c.args.things.now _ c.loop-i.i c.index-things-i.result refl c.loop-i-test.true c.index-things-i.is) c.requires.slots
      c.loop-i.places.items c.set_place.new.places.items c.set_place.ensures.places c.loop-i.invariant.placed;
}

pub returns-clause-placed : goal.returns-clause-placed
returns-clause-placed c =
    let all : c.loop-i.i ≡ length c.args.things.now = omega (arith, c.loop-i-test.false, c.loop-i.auto.i-end) in
    subst (λ (n : ℕ). PlacedBelow c.args.things.now c.args.settled.now n c.loop-i.places.items) all c.loop-i.invariant.placed
