use Rattle.std.proofs.Common.{◌≡◌, ◌≢◌, ◌<◌, ℕ, List, length, ◌∙◌, subst}
use Rattle.std.specs.Prelude.{true, false, slice_index, slice_index_or}
use Rattle.location_ranges.specs.declared.seen.Seen.{Seen}
use Rattle.location_ranges.specs.steps.Seen.{Sees}
use Rattle.location_ranges.proofs.Resting.{of_some}
use Rattle.location_ranges.proofs.seen.see.Goals as goal

pub returns : goal.returns
returns c = λ z e.
    let used = c.flag_all.new.used.items in
    of_some _ z (λ (y : Seen). Sees y c.args.stand.now) e (record {
      reached = c.if-not-stand.false;
      places = c.in_ok-places.ensures.items ∙ c.as_slice-2.ensures.value;
      used = subst (λ (ps : List ℕ). (j : ℕ) → j < length ps → slice_index ps j ≢ 0 → slice_index_or used (slice_index ps j) false ≡ true)
          c.as_slice.ensures.value c.in_ok-flag_all.ensures;
    })
