use Rattle.std.proofs.Common.{◌≡◌, ℕ, ◌<◌, ◌-◌, List, length, take, drop, sym, ap, subst, ◌∙◌, length-drop}
use Rattle.std.proofs.Math.Seq.{take-length}
use Rattle.std.specs.Prelude.{IfOk}
use Rattle.mir_func.specs.Function.{Function}
use Rattle.mir_func.specs.Sound.{IsSound}
use Rattle.mir_func.specs.declared.position.Pos.{Pos}
use Rattle.mir_func.specs.declared.block.Block.{Block}
use Rattle.mir_func.specs.Graph.{from_block, fetch_in}
use Rattle.sem_interpreter.specs.StandsFor.{Concrete}
use Rattle.sem_interpreter.specs.Steps.{GoesAlong}
use Rattle.sem_interpreter.proofs.Inside.{stays_inside_ok}
use Rattle.sem_interpreter.proofs.state.SourceState.step.Goals as goal

pub returns-clause-at : goal.returns-clause-at
returns-clause-at c =
    let i = c.in-Some.b in
    let bs = c.as_slice-blocks.result.now in
    let old = c.args.self.now in
    let new = c.step_in.new.self in
    let blocks : bs ≡ c.args.f.now.blocks = c.as_slice-blocks.ensures ∙ ap (λ (f : Function). f.blocks) c.f.view_is in
    let place : c.self.inside.pos ≡ old.pos = ap (λ (x : Concrete). x.pos) c.self.view_is in
    let rest : take (length bs - i) (drop i bs) ≡ drop i c.args.f.now.blocks =
    ap (λ (n : ℕ). take n (drop i bs)) (sym (length-drop i bs)) ∙ take-length (drop i bs) ∙ ap (drop i) blocks in
    stays_inside_ok c.args.f.now (subst IsSound c.f.view_is c.f.invariant) old new i
    (subst (λ (xs : List Block). i < length xs) blocks c.in-Some.ensures.0)
    (subst (λ (xs : List Block). from_block xs old.pos.block ≡ drop i xs) blocks
    (subst (λ (p : Pos). from_block bs p.block ≡ drop i bs) place c.in-Some.ensures.1))
    c.requires.at c.step_in.result
    (subst (λ (xs : List Block). IfOk c.step_in.result (λ r. GoesAlong (fetch_in xs old.pos.item) r old.pos new.pos)) rest c.step_in.ensures.edge)
    c.step_in.ensures.memory
