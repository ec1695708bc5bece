use Rattle.std.proofs.Common.{◌≡◌, ◌≤◌, length, get_or, ap, sym, subst, refl, arith}
use Rattle.std.specs.Option.{option_copied}
use Rattle.mir_func.specs.Graph.{Outside, fetch_in}
use Rattle.sem_interpreter.specs.StandsFor.{Concrete}
use Rattle.sem_interpreter.proofs.Stepping.{silent_steps, more_blocks}
use Rattle.sem_interpreter.proofs.state.SourceState.step_in.Goals as goal

pub returns-else-i-items-clause-step : goal.returns-else-i-items-clause-step
returns-else-i-items-clause-step c =
    let blocks = c.args.blocks.now in
    let at = subst (λ (x : Concrete). fetch_in blocks x.pos.item ≡ Outside → ⊥) (sym c.self.view_is) c.requires.at in
    let items = ap length c.as_slice-items.ensures in
    let past : length (get_or blocks 0 c.index-blocks-0.result).items ≤ c.self.inside.pos.item = omega (arith, c.if-i-items.false, items) in
    rw (← c.self.view_is)
    (silent_steps blocks c.index-blocks-0.result c.index-blocks-1.result _ c.args.subs.now (option_copied c.args.answer) _
    (more_blocks blocks c.index-blocks-0.result c.self.inside.pos.item c.requires.some past at) past refl)
