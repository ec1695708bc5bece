use Rattle.std.proofs.Common.{length, sym, ap, ◌∙◌, subst}
use Rattle.location_ranges.specs.steps.Places.{ArePlacesAt}
use Rattle.value_queries.proofs.Asking.{wanted_at}
use Rattle.value_queries.proofs.variable.first_place.Goals as goal

pub returns : goal.returns
returns c =
    let same = c.as_slice.ensures.value in
    record {
      wanted = λ are.
          c.place_of.ensures _ _ _
          (wanted_at c.args.blocks.now c.args.values.now _ c.in_ok-stand.stand _ c.args.block c.args.item are (c.in_ok-stand.ensures.stands are)
          (ap length same ∙ c.in_ok-places.ensures.count)
          (subst (ArePlacesAt c.in_ok-stand.stand) (sym same) c.in_ok-places.ensures.places) c.in_ok-stand.ensures.block c.in_ok-stand.ensures.item);
    }
