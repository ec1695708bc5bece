use Rattle.std.proofs.Common.{ap, subst, ◌∙◌}
use Rattle.sem_mir.specs.Step.{part_of}
use Rattle.sem_interpreter.specs.StandsFor.{Concrete, Holds}
use Rattle.sem_interpreter.proofs.History.{mark_does}
use Rattle.sem_interpreter.proofs.state.SourceState.mark.Goals as goal

pub returns-clause-ok : goal.returns-clause-ok
returns-clause-ok c = λ answer. rw (← c.self.view_is)
    (mark_does c.args.subs.now c.args.v.now c.args.m answer _ c.assign.new.self c.part_of-value.result
    (λ s holds. c.part_of-value.ensures ∙ ap (part_of c.args.v.now)
    (c.mark_value.ensures s (subst (λ (x : Concrete). Holds x s) c.self.view_is holds))) c.in_ok-assign.ensures.ok)
