use Rattle.pass_liveness.specs.Liveness.{has_at_start}
use Rattle.pass_liveness.proofs.Places.{has_none}
use Rattle.pass_liveness.proofs.Walking.{across_always, across_final, false_or}
use Rattle.pass_liveness.proofs.names.SlotAndBlockNumbers.step_across.Goals as goal

pub returns-in-Always : goal.returns-in-Always
returns-in-Always c = λ x. across_always (has_at_start c.args.self.now.slots c.args.self.now.blocks c.args.starts.now) c.args.exit c.in-Always.n _ x _
    c.in-Always.is
    (false_or _ _ _ (has_none c.args.self.now.slots c.clear.new.self c.clear.ensures x) (c.unite_start-in-Always.ensures x))

pub returns-in-Final : goal.returns-in-Final
returns-in-Final c = λ x. across_final (has_at_start c.args.self.now.slots c.args.self.now.blocks c.args.starts.now) c.args.exit _ x _ c.in-Final.is
    (has_none c.args.self.now.slots c.clear-in-Final.new.self c.clear-in-Final.ensures x)
