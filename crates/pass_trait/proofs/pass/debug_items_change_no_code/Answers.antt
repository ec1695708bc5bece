use Rattle.pass_trait.proofs.Composition.{make_code_alone}
use Rattle.pass_trait.proofs.pass.debug_items_change_no_code.Goals as goal

pub returns : goal.returns
returns g c = make_code_alone (g.P.Pass.steps c.args.pass.now) (g.met.P.Pass.one_code c.args.pass.now) (g.met.P.Pass.same_code c.args.pass.now)
