use Rattle.std.proofs.Common.{refl}
use Rattle.remat_pass.proofs.known.Known.learn_register.Goals as goal

pub returns-else-r-ne0 : goal.returns-else-r-ne0
returns-else-r-ne0 c = rw c.if-r-ne0.false (λ x. refl)
