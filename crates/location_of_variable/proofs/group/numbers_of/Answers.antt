use Rattle.std.proofs.Common.{refl, ap, ◌∙◌}
use Rattle.std.specs.Prelude.{Some, cond}
use Rattle.std.specs.HashMap.{get}
use Rattle.std.proofs.lemmas.Option.{slice_get_read}
use Rattle.location_of_variable.specs.steps.Gathering.{Key, is_key}
use Rattle.location_of_variable.proofs.Gathering.{number_more}
use Rattle.location_of_variable.proofs.group.numbers_of.Goals as goal

pub loop-k-preserved : goal.loop-k-preserved
loop-k-preserved c =
    number_more c.args.variables.now c.loop-k.k c.loop-k.numbers c.insert.new.self c.index-variables-k.result
    (slice_get_read c.args.variables.now _ c.loop-k.k c.index-variables-k.result refl c.loop-k-test.true c.index-variables-k.is)
    (λ q. c.in_ok-insert.ensures.updates.0 q ∙ ap (λ (k : Key). cond (is_key k q) (Some c.loop-k.k)
    (get is_key c.loop-k.numbers q)) c.key_of.ensures) c.loop-k.invariant
