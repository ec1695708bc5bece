use Rattle.std.proofs.Common.{arith, refl, sym, ap, ◌∙◌, subst}
use Rattle.std.specs.Prelude.{Some, None}
use Rattle.std.proofs.lemmas.Option.{slice_get-get_or, slice_get_within, get_or_from_slice_get}
use Rattle.location_of_variable.specs.VariableLocation.{IsWantedPlace}
use Rattle.value_queries.proofs.variable.place_of.Goals as goal

pub returns-in-None : goal.returns-in-None
returns-in-None c = λ g start p are. are.others c.args.part.now (c.in-None.ensures.none refl)

pub returns-in-Some : goal.returns-in-Some
returns-in-Some c = λ g start p are.
    let j = c.in-Some.j in
    let place = c.index-places-j.result in
    let within = slice_get_within c.args.parts.now j c.args.part.now c.in-Some.ensures.some in
    let at = slice_get-get_or c.args.places.now j place (omega (arith, within, c.requires)) ∙ ap Some (sym c.index-places-j.is) in
    subst (IsWantedPlace g start c.args.part.now p) (get_or_from_slice_get c.args.places.now j place None at)
    (are.each j c.args.part.now c.in-Some.ensures.some)
