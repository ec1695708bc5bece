use Rattle.std.proofs.Common.{◌≡◌, map, take}
use Rattle.pass_trait.specs.declared.loss.Reason.TheVariants.{CallNamed}
use Rattle.pass_trait.specs.Rule.{register_lost}
use Rattle.pass_manager.proofs.exposed.call_named.Given as goal

abbrev pub invariant-loop-r : goal.invariant-loop-r
invariant-loop-r l = l.losses ≡ map (λ r. register_lost r CallNamed) (take l.r-index l.registers)
