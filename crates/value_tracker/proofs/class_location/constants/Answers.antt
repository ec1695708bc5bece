use Rattle.std.proofs.Common.{◌≡◌, ℕ, length, refl, ◌∙◌, arith, subst}
use Rattle.std.proofs.lemmas.Option.{slice_get_read}
use Rattle.value_tracker.specs.Start.{AreConstantsBelow}
use Rattle.value_tracker.proofs.Constants.{constants_more, constants_now}
use Rattle.value_tracker.proofs.class_location.constants.Goals as goal

pub loop-i-preserved : goal.loop-i-preserved
loop-i-preserved c = record {
  count = c.set_constant.ensures.count ∙ c.loop-i.invariant.count;
  constants = λ class settle. constants_more c.args.things.now c.args.settled.now class settle c.loop-i.i c.loop-i.constants.items
      c.set_constant.new.constants.items
      (c.loop-i.invariant.constants class settle) c.index-things-i.result c.constant_of.result
      (slice_get_read c.args.things.now _ c.loop-i.i c.index-things-i.result refl c.loop-i-test.true c.index-things-i.is) c.constant_of.ensures
      c.set_constant.ensures.constants;
}

pub returns-clause-constants : goal.returns-clause-constants
returns-clause-constants c = λ class settle.
    let all : c.loop-i.i ≡ length c.args.things.now = omega (arith, c.loop-i-test.false, c.loop-i.auto.i-end) in
    constants_now c.args.things.now class c.loop-i.constants.items
    (subst (λ (n : ℕ). AreConstantsBelow c.args.things.now n class c.loop-i.constants.items) all (c.loop-i.invariant.constants class settle))
