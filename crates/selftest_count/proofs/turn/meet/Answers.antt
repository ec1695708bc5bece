use Rattle.std.proofs.Common.{sym, subst, ◌∙◌}
use Rattle.mir_func.specs.declared.position.Pos.{Pos}
use Rattle.sem_interpreter.specs.Steps.{source_of}
use Rattle.selftest_count.specs.steps.Beside.{AlignsSo, MissesNextSo}
use Rattle.selftest_count.proofs.Turns.{no_entry, call_entry, none_there, misses_entry}
use Rattle.selftest_count.proofs.turn.meet.Goals as goal

pub returns-in-None-clause-apart : goal.returns-in-None-clause-apart
returns-in-None-clause-apart c =
    no_entry (source_of c.args.f.now.blocks c.args.subs.now) c.args.machine.now.code c.args.moved c.args.machine.now.hart c.args.state.now
    (sym c.in-None.ensures.found)

pub returns-then-calls-clause-apart : goal.returns-then-calls-clause-apart
returns-then-calls-clause-apart c =
    call_entry (source_of c.args.f.now.blocks c.args.subs.now) c.args.machine.now.code c.args.moved c.args.machine.now.hart c.args.state.now
    c.in-Some.entry (sym c.in-Some.ensures.found) (sym c.calls.ensures ∙ c.if-calls.true)

pub returns-then-branch-clause-meets : goal.returns-then-branch-clause-meets
returns-then-branch-clause-meets c =
    let src = source_of c.args.f.now.blocks c.args.subs.now in
    record {
      found = sym c.in-Some.ensures.found;
      no_call = none_there _ (sym c.calls.ensures ∙ c.if-calls.false);
      aligned = subst (λ (p : Pos). AlignsSo src c.args.moved p c.args.state.now c.align.new.state) c.position_of.ensures
          (c.in_ok-align-in-Some.ensures.aligned c.if-branch.true);
    }

pub returns-else-branch-clause-apart : goal.returns-else-branch-clause-apart
returns-else-branch-clause-apart c =
    let src = source_of c.args.f.now.blocks c.args.subs.now in
    misses_entry src c.args.machine.now.code c.args.moved c.args.machine.now.hart c.args.state.now c.in-Some.entry (sym c.in-Some.ensures.found)
    (subst (λ (p : Pos). MissesNextSo src c.args.moved p c.args.state.now) c.position_of.ensures
    (c.in_ok-align-in-Some.ensures.misses c.if-branch.false))
