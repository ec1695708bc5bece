use Rattle.sem_value_ids.specs.Pullback.{OfVariable}
use Rattle.value_queries.proofs.Told.{sits_where, part_told}
use Rattle.value_queries.proofs.variable.holds.Goals as goal

pub returns : goal.returns
returns c = λ blocks are at.
    let v = c.args.values.now in
    let index = c.args.point.now.index in
    let s = c.args.point.now.stand in
    let w = c.args.part.now in
    sits_where blocks v index s are at.stands at.index (OfVariable w) c.args.place.now c.part_class.result c.class_sits.ensures.fit
    (part_told blocks v index s are at.stands at.index w c.part_class.result c.part_class.ensures.held c.part_class.ensures.none) c.class_sits.result
    c.class_sits.ensures.sits
