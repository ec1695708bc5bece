use Rattle.std.proofs.Common.{◌∷◌, [], ◌<◌, ℕ, length, sym, ap, ◌∙◌, arith}
use Rattle.std.proofs.lemmas.List.Elements.{All-push, Contains-append_left}
use Rattle.std.proofs.lemmas.Result.{on_ok_weaker}
use Rattle.pass_liveness.specs.Index.{index_in}
use Rattle.pass_liveness.proofs.Indices.{index_is}
use Rattle.place_liveness.proofs.Listed.{listed_none, listed_one}
use Rattle.place_liveness.proofs.ways.add.Goals as goal

pub overflow_cast-index : goal.overflow_cast-index
overflow_cast-index c = omega (arith, c.requires.few, (index_is c.args.ids.now c.number.result c.in-Some.found (sym c.in-Some.ensures)).0)

pub returns-in-None-clause-listed : goal.returns-in-None-clause-listed
returns-in-None-clause-listed c =
    listed_none c.args.ids.now c.args.n c.args.ways.now (c.in-None.ensures ∙ ap (λ (v : ℕ). index_in c.args.ids.now v) c.number.ensures)

pub returns-in-Some-clause-within : goal.returns-in-Some-clause-within
returns-in-Some-clause-within c =
    let inside = (index_is c.args.ids.now c.number.result c.in-Some.found (sym c.in-Some.ensures)).0 in
    on_ok_weaker c.push.result (λ e. rw e (All-push (λ (b : ℕ). b < length c.args.ids.now) c.args.ways.now _ c.requires.within inside)) c.push.ensures.ok

pub returns-in-Some-clause-kept : goal.returns-in-Some-clause-kept
returns-in-Some-clause-kept c =
    on_ok_weaker c.push.result (λ e m at. rw e (Contains-append_left c.args.ways.now (c.in-Some.found ∷ []) m at)) c.push.ensures.ok

pub returns-in-Some-clause-listed : goal.returns-in-Some-clause-listed
returns-in-Some-clause-listed c =
    let there = c.in-Some.ensures ∙ ap (λ (v : ℕ). index_in c.args.ids.now v) c.number.ensures in
    on_ok_weaker c.push.result (λ e. listed_one c.args.ids.now c.args.n c.in-Some.found c.args.ways.now _ there e) c.push.ensures.ok
