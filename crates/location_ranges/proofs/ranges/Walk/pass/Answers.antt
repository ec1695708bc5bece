use Rattle.std.proofs.Common.{◌≡◌, ◌<◌, ℕ, List, length, refl, sym, ◌∙◌, ap, subst}
use Rattle.std.specs.Prelude.{Option, Bool, true, false, not, slice_index_or}
use Rattle.std.proofs.lemmas.Option.{slice_get_read, slice_get_within}
use Rattle.rv64_instr.specs.declared.place.Place.{Place}
use Rattle.mir_func.specs.declared.block.Block.{Block}
use Rattle.location_ranges.specs.steps.Saying.{TurnedBelow, StandStill}
use Rattle.location_ranges.proofs.Resting.{places_rest, seen_stays, sees_are}
use Rattle.location_ranges.proofs.Still.{stand_still, none_turned, are_turned}
use Rattle.location_ranges.proofs.ranges.Walk.pass.Goals as goal

pub returns-clause-stands : goal.returns-clause-stands
returns-clause-stands c = λ are stands.
    let blocks = c.args.blocks.now in
    let block = c.index-blocks-block.result in
    let within = subst (λ (n : ℕ). n < length blocks) (sym c.block_of-block.ensures) (slice_get_within blocks c.args.entry.now.point.block
    c.requires.point.0 c.requires.point.1) in
    c.in_ok-stand.ensures.stands blocks are (
      block,
      slice_get_read blocks _ c.block_of-block.result block refl within c.index-blocks-block.is,
      ap (λ (z : Block). z.items) c.index-blocks-block.is ∙ sym c.as_slice-items.ensures,
    ) stands

pub returns-then-rests-clause-stands : goal.returns-then-rests-clause-stands
returns-then-rests-clause-stands c = λ are stands.
    let blocks = c.args.blocks.now in
    let block = c.index-blocks-block.result in
    let within = subst (λ (n : ℕ). n < length blocks) (sym c.block_of-block.ensures) (slice_get_within blocks c.args.entry.now.point.block
    c.requires.point.0 c.requires.point.1) in
    c.in_ok-stand.ensures.stands blocks are (
      block,
      slice_get_read blocks _ c.block_of-block.result block refl within c.index-blocks-block.is,
      ap (λ (z : Block). z.items) c.index-blocks-block.is ∙ sym c.as_slice-items.ensures,
    ) stands

turned_is : (b : Bool) → not b ≡ false → b ≡ true
turned_is true e = refl
turned_is false e = sym e

pub returns-then-rests-clause-places : goal.returns-then-rests-clause-places
returns-then-rests-clause-places c =
    let w = c.args.self in
    let s = c.in_ok-stand.stand in
    let r = c.rests.ensures c.if-rests.true in
    let seen = c.requires.fits.seen r.of r.is in
    let on = c.is_onward-same.ensures.0 r.same in
    let stays = c.in_ok-stand.ensures.stays on.0 on.1 in
    places_rest r.of s w.places.items (seen_stays r.of w.stand w.places.items s stays r.unmarked seen.are) r.still r.reached

pub returns-then-rests-clause-turned : goal.returns-then-rests-clause-turned
returns-then-rests-clause-turned c =
    let w = c.args.self in
    let r = c.rests.ensures c.if-rests.true in
    let seen = c.requires.fits.seen r.of r.is in
    none_turned c.args.groups.now w.places.items c.args.entry.now.address w.tracks.items (c.requires.fits.turned seen.turned)

pub returns-then-rests-clause-fits : goal.returns-then-rests-clause-fits
returns-then-rests-clause-fits c =
    let w = c.args.self in
    let s = c.in_ok-stand.stand in
    let fits = c.requires.fits in
    let r = c.rests.ensures c.if-rests.true in
    let on = c.is_onward-same.ensures.0 r.same in
    let stays = c.in_ok-stand.ensures.stays on.0 on.1 in
    record {
      stand = c.in_ok-stand.ensures.fits;
      firsts = fits.firsts;
      places = fits.places;
      changed = fits.changed;
      tracks = fits.tracks;
      turned = fits.turned;
      seen = λ z e.
          let seen = fits.seen z e in
          record { reached = r.reached; turned = seen.turned; are = seen_stays z w.stand w.places.items s stays r.unmarked seen.are };
    }

pub turn_all-requires-clause-still : goal.turn_all-requires-clause-still
turn_all-requires-clause-still c = λ e.
    let w = c.args.self in
    let groups = c.args.groups.now in
    let new = c.look_up.new.places.items in
    let flags = c.look_up.new.changed.items in
    subst (λ (ps : List (Option Place)). StandStill groups ps c.as_slice-flags.result.now w.tracks.items) (sym c.as_slice-found.ensures.value)
    (subst (λ (fs : List Bool). StandStill groups new fs w.tracks.items) (sym c.as_slice-flags.ensures.value)
    (stand_still flags w.places.items new c.in_ok-any.any c.in_ok-any.ensures.changes groups w.tracks.items (c.requires.fits.turned (turned_is w.turned e))))

pub turn_all-requires-clause-quiet : goal.turn_all-requires-clause-quiet
turn_all-requires-clause-quiet c = λ e.
    subst (λ (fs : List Bool). (j : ℕ) → slice_index_or fs j false ≡ false) (sym c.as_slice-flags.ensures.value) (c.in_ok-any.ensures.changes.quiet e)

pub returns-clause-turned : goal.returns-clause-turned
returns-clause-turned c =
    let groups = c.args.groups.now in
    subst (λ (ps : List (Option Place)). TurnedBelow groups ps c.args.entry.now.address c.args.self.tracks.items (length groups) c.turn_all.new.tracks.items)
    c.as_slice-found.ensures.value c.in_ok-turn_all.ensures

pub returns-clause-fits : goal.returns-clause-fits
returns-clause-fits c =
    let w = c.args.self in
    let groups = c.args.groups.now in
    let fits = c.requires.fits in
    let new = c.look_up.new.places.items in
    let tracks = c.turn_all.new.tracks.items in
    let turned = subst (λ (ps : List (Option Place)). TurnedBelow groups ps c.args.entry.now.address w.tracks.items (length groups) tracks)
    c.as_slice-found.ensures.value c.in_ok-turn_all.ensures in
    record {
      stand = c.in_ok-stand.ensures.fits;
      firsts = c.in_ok-any.ensures.empty;
      places = c.in_ok-any.ensures.count ∙ fits.places;
      changed = c.in_ok-any.ensures.flags ∙ fits.places;
      tracks = turned.for_all ∙ fits.tracks;
      turned = λ on. are_turned groups new c.args.entry.now.address w.tracks.items tracks turned;
      seen = λ z e.
          let sees = c.in_ok-seen.ensures z e in
          record {
            reached = sees.reached;
            turned = refl;
            are = sees_are z c.in_ok-stand.stand new sees c.in_ok-any.ensures.places
                (c.in_ok-any.ensures.count ∙ fits.places ∙ sym c.in_ok-stand.ensures.fits.parts);
          };
    }
