use Rattle.std.proofs.Common.{◌≡◌, ℕ, List, length, sym, ◌∙◌, subst, arith}
use Rattle.value_tracker.specs.LowestLocation.{AreFirsts}
use Rattle.location_ranges.proofs.Walking.{back_is}
use Rattle.location_ranges.proofs.places.look_up.Goals as goal

pub fill-requires-clause-some : goal.fill-requires-clause-some
fill-requires-clause-some c = c.end_of-end.ensures.some (rw c.as_slice-located.ensures.value (omega (arith, c.requires.count)))

pub returns-clause-places : goal.returns-clause-places
returns-clause-places c =
    let places = c.args.stand.now.held.places.items in
    let filled = c.fill.new.firsts in
    let count : length filled ≡ c.make_room.new.firsts.len = omega (arith, c.fill.auto.firsts, c.deref_mut.ensures.len, c.make_room.new.firsts.ok.0) in
    let is : c.as_slice.result.now ≡ filled = c.as_slice.ensures.value ∙ back_is c.make_room.new.firsts.len filled _ count in
    record {
      firsts = c.as_slice.result.now;
      are = subst (AreFirsts places) (sym is) (subst (λ (ps : List ℕ). AreFirsts ps filled) c.as_slice-located.ensures.value c.fill.ensures);
      each = c.place_parts-any.ensures.places;
    }
