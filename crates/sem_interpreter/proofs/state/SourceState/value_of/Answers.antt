use Rattle.std.proofs.Common.{sym, subst, ◌∙◌}
use Rattle.sem_interpreter.specs.StandsFor.{Concrete, StandsFor}
use Rattle.sem_interpreter.proofs.state.SourceState.value_of.Goals as goal

pub returns : goal.returns
returns c = λ s holds.
    let inside = subst (λ (x : Concrete). StandsFor x s) (sym c.self.view_is) holds in
    c.last.ensures ∙ sym (inside.core.marks c.args.v.now)
