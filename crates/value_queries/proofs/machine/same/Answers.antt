use Rattle.std.proofs.Common.{ℕ, sym, subst}
use Rattle.std.specs.Prelude.{IsTrue, ◌↔◌}
use Rattle.value_queries.specs.Sitting.{SitsByClass}
use Rattle.value_queries.proofs.Told.{not_number_same, number_same}
use Rattle.value_queries.proofs.machine.same.Goals as goal

pub returns-in-None : goal.returns-in-None
returns-in-None c = λ blocks are at.
    let index = c.args.point.now.index in
    let s = c.args.point.now.stand in
    let b = c.args.b.now in
    not_number_same blocks c.args.values.now index s are at.stands at.index c.args.a.now b (sym c.in-None.ensures.value) c.class_sits.ensures.fit
    c.class_sits.result
    (subst (λ (n : ℕ). IsTrue c.class_sits.result ↔ SitsByClass s index n b) c.named_class.ensures.class c.class_sits.ensures.sits)

pub returns-in-Some : goal.returns-in-Some
returns-in-Some c = λ blocks are at.
    number_same blocks c.args.values.now c.args.point.now.index c.args.point.now.stand are at.stands at.index c.args.a.now c.args.b.now c.in-Some.m
    (sym c.in-Some.ensures.value) c.in-Some.ensures.fit c.number_sits.ensures.fit c.number_sits.result c.number_sits.ensures.number
    c.number_sits.ensures.place
