use Rattle.std.proofs.Common.{List, ap, subst, ◌∙◌}
use Rattle.mir_func.specs.declared.object.Object.{Object}
use Rattle.mir_func.specs.Sound.{LastCloses}
use Rattle.mir_func.specs.Function.{Function}
use Rattle.sem_mir.specs.InitialState.{first_of}
use Rattle.sem_interpreter.specs.Acts.{StartsMachine}
use Rattle.sem_interpreter.proofs.Stepping.{starts_stands, first_position}
use Rattle.sem_interpreter.proofs.state.SourceState.new.Goals as goal

pub returns-clause-stands : goal.returns-clause-stands
returns-clause-stands c = λ s starts.
    starts_stands c.args.f.now.objects c.args.f.now.blocks c.args.start.now c.in_ok-new.field-0 _ _ c.first.result s starts
    (subst (λ (os : List Object). StartsMachine os c.args.start.now c.in_ok-new.field-0)
    (c.as_slice-2.ensures ∙ ap (λ (f : Function). f.objects) c.f.view_is) c.in_ok-new.ensures) c.new-2.ensures.empty c.new-3.ensures
    (c.first.ensures ∙ ap first_of (c.as_slice.ensures ∙ ap (λ (f : Function). f.blocks) c.f.view_is))

pub returns-clause-at : goal.returns-clause-at
returns-clause-at c =
    first_position c.args.f.now.blocks c.first.result (subst (λ (f : Function). LastCloses f.blocks) c.f.view_is c.f.invariant.last)
    (c.first.ensures ∙ ap first_of (c.as_slice.ensures ∙ ap (λ (f : Function). f.blocks) c.f.view_is))
