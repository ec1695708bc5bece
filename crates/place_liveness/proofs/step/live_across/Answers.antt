use Rattle.std.proofs.Common.{Bool, ◌||◌, sym, ap, ◌∙◌}
use Rattle.pass_liveness.specs.mir_func.declared.exit.Exit.{Exit}
use Rattle.pass_liveness.specs.Walk.{live_across}
use Rattle.place_liveness.specs.Alone.{is_target}
use Rattle.place_liveness.proofs.step.live_across.Goals as goal

pub returns-in-Onward : goal.returns-in-Onward
returns-in-Onward c = λ x. sym (ap (λ (e : Exit). live_across (λ n y. is_target c.args.target.now n) e c.args.below x) c.in-Onward.is)

pub returns-in-Perhaps : goal.returns-in-Perhaps
returns-in-Perhaps c = λ x.
    c.either.ensures ∙ ap (λ (b : Bool). c.args.below || b) c.is_target.ensures ∙
    sym (ap (λ (e : Exit). live_across (λ n y. is_target c.args.target.now n) e c.args.below x) c.in-Perhaps.is)

pub returns-in-Always : goal.returns-in-Always
returns-in-Always c = λ x.
    c.is_target-in-Always.ensures ∙ sym (ap (λ (e : Exit). live_across (λ n y. is_target c.args.target.now n) e c.args.below x) c.in-Always.is)

pub returns-in-Final : goal.returns-in-Final
returns-in-Final c = λ x. sym (ap (λ (e : Exit). live_across (λ n y. is_target c.args.target.now n) e c.args.below x) c.in-Final.is)
