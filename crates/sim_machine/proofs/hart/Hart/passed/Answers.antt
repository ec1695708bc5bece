use Rattle.std.proofs.Common.{◌++◌, ◌∙◌}
use Rattle.sim_machine.proofs.hart.Hart.passed.Goals as goal

pub returns : goal.returns
returns c = λ s h.
    let registers = c.in_ok-values.ensures s h in
    let words = c.as_slice.ensures ∙ c.in_ok-words.ensures s h in
    c.in_ok-extend_from_slice.ensures.ok ∙ (λ i. registers i ++ words i)
