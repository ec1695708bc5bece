use Rattle.std.proofs.Common.{◌≡◌, ◌<◌, ◌^◌, ℕ, length, refl, sym, ◌∙◌, subst, arith, eqb-true}
use Rattle.std.specs.Prelude.{None, Some, true, false}
use Rattle.std.proofs.lemmas.Option.{slice_get_read}
use Rattle.emit_code.specs.declared.code.EncodedInstruction.{EncodedInstruction}
use Rattle.location_ranges.specs.declared.transfer_tracker.TransferTracker.{TransferTracker}
use Rattle.location_ranges.specs.Stands.{Stands}
use Rattle.location_ranges.specs.steps.Places.{IsEmpty}
use Rattle.location_ranges.specs.steps.Saying.{begin_at}
use Rattle.location_ranges.specs.steps.Walk.{IsPointIn}
use Rattle.location_ranges.proofs.Saying.{begin_first, at_end}
use Rattle.kept_ranges.specs.Calls.{lookup_of}
use Rattle.kept_ranges.specs.steps.Walk.{HaveTold}
use Rattle.kept_ranges.proofs.Entries.{none_stand}
use Rattle.kept_ranges.proofs.Telling.{have_told_entry, same_stand}
use Rattle.kept_ranges.proofs.ranges.past_entries.Goals as goal

pub loop-entry-init : goal.loop-entry-init
loop-entry-init c = record {
  fits = record {
    stand = c.in_ok-stand.ensures.fits;
    firsts = subst IsEmpty (sym c.new.ensures.items) (λ k. refl);
    places = omega (arith, c.in_ok-vec.ensures.len, c.in_ok-vec.field-0.ok.0, c.len.ensures);
    changed = omega (arith, c.in_ok-vec-2.ensures.len, c.in_ok-vec-2.field-0.ok.0, c.len-2.ensures);
    seen = λ z e. absurd (let no : None ≡ Some z = e in cc);
    tracks = c.requires.tracks;
    turned = λ e. absurd (let no : false ≡ true = e in cc);
  };
  stands = λ are. c.in_ok-stand.ensures.stands c.args.blocks.now are;
  told = λ variables base end stand groups told.
      subst (λ (n : ℕ). HaveTold c.args.blocks.now c.args.values.now c.args.entries.now variables base n c.args.tracks.items)
      (sym (begin_first base c.args.entries.now)) told;
}

pub pass-requires-clause-point : goal.pass-requires-clause-point
pass-requires-clause-point c =
    subst (IsPointIn c.args.blocks.now) (sym c.entry-item.is) (c.requires.points c.loop-entry.entry-index c.entry-item.result c.loop-entry-test.true)

pub past_lookup-requires-clause-point : goal.past_lookup-requires-clause-point
past_lookup-requires-clause-point c =
    subst (IsPointIn c.args.blocks.now) (sym c.entry-item.is) (c.requires.points c.loop-entry.entry-index c.entry-item.result c.loop-entry-test.true)

pub past_lookup-requires-clause-low : goal.past_lookup-requires-clause-low
past_lookup-requires-clause-low c =
    subst (λ (e : EncodedInstruction). e.address < 2 ^ 63) (sym c.entry-item.is)
    (c.requires.low c.loop-entry.entry-index c.entry-item.result c.loop-entry-test.true)

pub loop-entry-preserved : goal.loop-entry-preserved
loop-entry-preserved c =
    let i = c.loop-entry.entry-index in
    let e = c.entry-item.result in
    let w = c.in_ok-walk.walk in
    let after = c.in_ok-walk-2.walk in
    let inv = c.loop-entry.invariant in
    let blocks = c.args.blocks.now in
    let values = c.args.values.now in
    let groups = c.args.groups.now in
    let index = c.in_ok-index.index in
    let entries = c.args.entries.now in
    let at = slice_get_read entries _ i e refl c.loop-entry-test.true c.entry-item.is in
    let past = c.in_ok-walk-2.ensures.past in
    record {
      fits = c.in_ok-walk-2.ensures.fits;
      stands = λ are.
          subst (λ (s : TransferTracker). Stands blocks values index s) (sym (same_stand values groups _ (lookup_of e) w after past))
          (c.in_ok-walk.ensures.stands are (inv.stands are));
      told = λ variables base end stand of told.
          subst (λ (n : ℕ). HaveTold blocks values entries variables base (begin_at base entries n) after.tracks.items) (omega arith)
          (have_told_entry blocks values index entries variables base end stand groups of i e at w after c.in_ok-walk.ensures.fits
          (λ are. c.in_ok-walk.ensures.stands are (inv.stands are)) c.in_ok-walk.ensures.block c.in_ok-walk.ensures.item c.in_ok-walk.ensures.places
          c.loop-entry.walk.tracks.items inv.fits.tracks c.in_ok-walk.ensures.turned past (inv.told variables base end stand of told));
    }

pub returns-clause-told : goal.returns-clause-told
returns-clause-told c = λ variables base end stand of told.
    let entries = c.args.entries.now in
    let i = c.loop-entry.entry-index in
    let is : i ≡ length entries = omega arith in
    let tracks = c.loop-entry.walk.tracks.items in
    subst (λ (n : ℕ). HaveTold c.args.blocks.now c.args.values.now entries variables base n tracks) (at_end base end entries stand)
    (subst (λ (n : ℕ). HaveTold c.args.blocks.now c.args.values.now entries variables base (begin_at base entries n) tracks) is
    (c.loop-entry.invariant.told variables base end stand of told))

pub returns-then-is_empty-clause-told : goal.returns-then-is_empty-clause-told
returns-then-is_empty-clause-told c = λ variables base end stand of told.
    subst (λ (n : ℕ). HaveTold c.args.blocks.now c.args.values.now c.args.entries.now variables base n c.args.tracks.items)
    (none_stand base end c.args.entries.now (eqb-true (length c.args.entries.now) 0 (sym c.is_empty.ensures ∙ c.if-is_empty.true)) stand) told
