use Rattle.std.proofs.Common.{◌≡◌, ℕ, length, refl, sym, subst, arith}
use Rattle.std.specs.Prelude.{None, Some, true, false}
use Rattle.std.proofs.lemmas.Option.{slice_get_read}
use Rattle.location_ranges.specs.steps.Places.{IsEmpty}
use Rattle.location_ranges.specs.steps.Walk.{IsPointIn, HaveSaid}
use Rattle.location_ranges.proofs.Walking.{have_said_more}
use Rattle.location_ranges.proofs.ranges.past_entries.Goals as goal

pub loop-entry-init : goal.loop-entry-init
loop-entry-init c = record {
  fits = record {
    stand = c.in_ok-stand.ensures.fits;
    firsts = subst IsEmpty (sym c.new.ensures.items) (λ k. refl);
    places = omega (arith, c.in_ok-vec.ensures.len, c.in_ok-vec.field-0.ok.0, c.len.ensures);
    changed = omega (arith, c.in_ok-vec-2.ensures.len, c.in_ok-vec-2.field-0.ok.0, c.len-2.ensures);
    tracks = c.requires.tracks;
    turned = λ e. absurd (let no : false ≡ true = e in cc);
    seen = λ z e. absurd (let no : None ≡ Some z = e in cc);
  };
  stands = λ are. c.in_ok-stand.ensures.stands c.args.blocks.now are;
  said = λ variables base end stand groups said. said;
}

pub pass-requires-clause-point : goal.pass-requires-clause-point
pass-requires-clause-point c =
    subst (IsPointIn c.args.blocks.now) (sym c.entry-item.is) (c.requires.points c.loop-entry.entry-index c.entry-item.result c.loop-entry-test.true)

pub loop-entry-preserved : goal.loop-entry-preserved
loop-entry-preserved c =
    let i = c.loop-entry.entry-index in
    let e = c.entry-item.result in
    let w = c.in_ok-walk.walk in
    let inv = c.loop-entry.invariant in
    let at = slice_get_read c.args.entries.now _ i e refl c.loop-entry-test.true c.entry-item.is in
    record {
      fits = c.in_ok-walk.ensures.fits;
      stands = λ are. c.in_ok-walk.ensures.stands are (inv.stands are);
      said = λ variables base end stand groups said.
          subst (λ (n : ℕ). HaveSaid c.args.blocks.now c.args.values.now c.args.entries.now variables base n w.tracks.items) (omega arith)
          (have_said_more c.args.blocks.now c.args.values.now c.in_ok-index.index c.args.entries.now variables base end stand c.args.groups.now groups i e w
          c.loop-entry.walk.tracks.items at inv.fits.tracks c.in_ok-walk.ensures.fits.places
          (λ are. c.in_ok-walk.ensures.stands are (inv.stands are)) c.in_ok-walk.ensures.block c.in_ok-walk.ensures.item c.in_ok-walk.ensures.places
          c.in_ok-walk.ensures.turned (inv.said variables base end stand groups said));
    }

pub returns-clause-said : goal.returns-clause-said
returns-clause-said c = λ variables base end stand groups said.
    let i = c.loop-entry.entry-index in
    let is : i ≡ length c.args.entries.now = omega arith in
    subst (λ (n : ℕ). HaveSaid c.args.blocks.now c.args.values.now c.args.entries.now variables base n c.loop-entry.walk.tracks.items) is
    (c.loop-entry.invariant.said variables base end stand groups said)
