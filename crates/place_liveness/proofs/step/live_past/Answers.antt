use Rattle.std.proofs.Common.{ℕ, Option, sym, ap, ◌∙◌}
use Rattle.pass_liveness.specs.Walk.{live_past}
use Rattle.place_liveness.specs.Alone.{is_target}
use Rattle.place_liveness.proofs.step.live_past.Goals as goal

pub returns-in-None : goal.returns-in-None
returns-in-None c = λ x. sym (ap (λ (o : Option ℕ). live_past (λ n y. is_target c.args.target.now n) o x) c.in-None.is)

pub returns-in-Some : goal.returns-in-Some
returns-in-Some c = λ x. c.is_target.ensures ∙ sym (ap (λ (o : Option ℕ). live_past (λ n y. is_target c.args.target.now n) o x) c.in-Some.is)
