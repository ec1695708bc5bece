use Rattle.std.proofs.Common.{refl}
use Rattle.std.proofs.lemmas.Option.{slice_get_within, get_or_from_slice_get}
use Rattle.value_queries.proofs.variable.part_class.Goals as goal

pub returns-in-None : goal.returns-in-None
returns-in-None c = record {
  held = λ known. absurd (c.in-None.ensures.none refl known);
  none = λ some. absurd (some refl);
}

pub returns-in-Some : goal.returns-in-Some
returns-in-Some c =
    let j = c.in-Some.j in
    let w = c.args.part.now in
    let at = c.in-Some.ensures.some in
    record {
      held = λ known. (j, at, c.part_at.ensures);
      none = λ some. (j, slice_get_within c.args.parts.now j w at, get_or_from_slice_get c.args.parts.now j w w at);
    }
