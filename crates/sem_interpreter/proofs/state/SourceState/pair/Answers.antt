use Rattle.std.proofs.Common.{◌≡◌, sym, ap, subst, ◌∙◌}
use Rattle.std.specs.Map.{lookup}
use Rattle.mir_substitution.specs.Index.{is_key}
use Rattle.sem_interpreter.specs.StandsFor.{Concrete, Holds, flat}
use Rattle.sem_interpreter.proofs.state.SourceState.pair.Goals as goal

pub returns-in-Some : goal.returns-in-Some
returns-in-Some c = λ s holds.
    let inside = subst (λ (x : Concrete). Holds x s) (sym c.self.view_is) holds in
    let pairs = c.self.inside.pairs.entries in
    let here : flat (lookup (is_key (c.number.result, c.number-2.result)) pairs) ≡ flat (lookup (is_key (c.args.pair.number, c.args.pair.operand)) pairs) =
    λ i. flat (lookup (is_key (c.number.ensures i, c.number-2.ensures i)) pairs) in
    sym (inside.pairs c.args.pair.number c.args.pair.operand ∙ sym here ∙ ap flat (sym c.in-Some.ensures.value))
