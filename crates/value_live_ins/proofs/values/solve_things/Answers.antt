use Rattle.std.proofs.Common.{◌≤◌, ◌+◌, ◌*◌, List, length, sym, ap, ◌∙◌, subst}
use Rattle.std.specs.Prelude.{map, All}
use Rattle.mir_func.specs.declared.block.Block.{Block}
use Rattle.mir_func.specs.Function.{FramedFunction}
use Rattle.mir_func.specs.Graph.{framed_program}
use Rattle.mir_func.specs.Resolve.{resolve}
use Rattle.value_proof.specs.PreferredByClass.{AreEnoughFor, AreThingsOf}
use Rattle.value_solver.specs.declared.tracked.Tracked.{Tracked}
use Rattle.value_solver.specs.Entry.{thing, IsEntry}
use Rattle.value_live_ins.specs.steps.Framing.{AreBlocks}
use Rattle.value_live_ins.specs.Used.{IsUsed}
use Rattle.value_live_ins.proofs.Framing.{are_blocks}
use Rattle.value_live_ins.proofs.Solving.{things_are, things_enough}
use Rattle.value_live_ins.proofs.values.solve_things.Goals as goal

pub solve_over-requires-clause-blocks : goal.solve_over-requires-clause-blocks
solve_over-requires-clause-blocks c = subst AreBlocks (sym c.as_slice-blocks.ensures) (are_blocks _ c.framed.invariant)

pub returns-clause-values : goal.returns-clause-values
returns-clause-values c =
    let blocks = c.as_slice-blocks.result.now in
    let tracked = c.in_ok-variables.field-0.things in
    let same = c.as_slice-blocks.ensures ∙ ap (λ (f : FramedFunction). f.blocks) c.framed.view_is in
    record {
      things = c.in_ok-variables.ensures.things;
      once = c.in_ok-variables.ensures.tracked.once;
      fewer = c.in_ok-variables.ensures.fewer;
      enough = subst (λ (z : List Block). AreEnoughFor (framed_program z (resolve c.args.subs.now)) (map thing tracked)) same
          (things_enough blocks c.args.subs.now c.in_ok-variables.field-0.variables tracked c.in_ok-variables.ensures.things c.in_ok-variables.ensures.knows);
      used = subst (λ (z : List Block). All (IsUsed z (resolve c.args.subs.now) c.args.asked.now) tracked) same c.in_ok-variables.ensures.used;
      entries = λ b e at.
          subst (λ (xs : List Tracked). IsEntry (framed_program c.args.framed.now.blocks (resolve c.args.subs.now)) xs b e) c.as_slice.ensures
          (subst (λ (z : List Block). IsEntry (framed_program z (resolve c.args.subs.now)) c.as_slice.result.now b e) same
          (c.in_ok-solved.ensures.entries b e at));
      for_all = c.in_ok-solved.ensures.for_all ∙ ap (length {A = Block}) same;
      sweeps = subst (λ (z : List Block). c.in_ok-solved.solved.sweeps ≤ 2 * length tracked * length z + 1) same
          (subst (λ (xs : List Tracked). c.in_ok-solved.solved.sweeps ≤ 2 * length xs * length blocks + 1) c.as_slice.ensures
          c.in_ok-solved.ensures.sweeps);
    }

pub returns-clause-whole : goal.returns-clause-whole
returns-clause-whole c = λ whole.
    let blocks = c.as_slice-blocks.result.now in
    let tracked = c.in_ok-variables.field-0.things in
    let same = c.as_slice-blocks.ensures ∙ ap (λ (f : FramedFunction). f.blocks) c.framed.view_is in
    subst (λ (z : List Block). AreThingsOf (framed_program z (resolve c.args.subs.now)) (map thing tracked)) same
    (things_are blocks c.args.subs.now c.in_ok-variables.field-0.variables tracked c.in_ok-variables.ensures.things
    (c.in_ok-variables.ensures.whole whole))
