use Rattle.std.proofs.Common.{sym, ap, refl}
use Rattle.sem_interpreter.specs.Memory.{number_in}
use Rattle.sem_interpreter.proofs.memory.Memory.new.Goals as goal

pub loop-cell-init : goal.loop-cell-init
loop-cell-init c = ((λ _. 0), (λ a. sym (ap (λ es. number_in es a) c.new-bytes.ensures.empty)), refl)
