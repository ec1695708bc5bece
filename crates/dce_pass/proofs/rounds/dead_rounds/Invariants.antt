use Rattle.std.proofs.Common.{◌+◌, cond}
use Rattle.pass_trait.specs.Sizes.{code_count}
use Rattle.dce_pass.proofs.Loop.{Going}
use Rattle.dce_pass.proofs.rounds.dead_rounds.Given as goal

abbrev pub invariant-loop-going : goal.invariant-loop-going
invariant-loop-going l = Going l.fn.f l.fn.subs l.f l.subs l.losses l.going

abbrev pub decreases-loop-going : goal.decreases-loop-going
decreases-loop-going l = code_count l.f + cond l.going 1 0
