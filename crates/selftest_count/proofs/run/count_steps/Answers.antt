use Rattle.std.proofs.Common.{◌≡◌, ◌≤◌, false, refl, sym, ◌∙◌, subst, arith}
use Rattle.emit_code.specs.Laid.{LaidCode}
use Rattle.sem_interpreter.specs.Steps.{source_of}
use Rattle.sim_machine.specs.Shown.{ShowsCode}
use Rattle.selftest_count.specs.declared.counts.Counts.{Counts}
use Rattle.selftest_count.specs.declared.turn.StepOutcome.{StepOutcome}
use Rattle.selftest_count.specs.Apart.{GoesApart}
use Rattle.selftest_count.specs.Counts.{makes_steps}
use Rattle.selftest_count.specs.steps.Beside.{Beside, Leads}
use Rattle.selftest_count.proofs.run.count_steps.Goals as goal

pub steps-init : goal.steps-init
steps-init c = record {
  code = refl;
  at = c.requires.at;
  bounded = c.new-counts.ensures.bounded;
  within = subst (λ (n : Counts). n.steps ≤ c.args.limit) (sym c.new-counts.ensures.made) (omega arith);
  lead = λ image m s shows b. subst (λ (n : Counts). Beside (source_of c.args.source.now.blocks c.args.subs.now) image c.args.lists.now c.args.parts.now
      m s n c.args.machine.now.hart c.args.state.now false) (sym c.new-counts.ensures.made) b;
}

pub steps-preserved : goal.steps-preserved
steps-preserved c =
    let src = source_of c.args.source.now.blocks c.args.subs.now in
    let code = c.steps.machine.code in
    let went = subst (λ (t : StepOutcome). Leads src code c.args.lists.now c.args.parts.now t c.steps.counts c.make_turn.new.counts c.steps.machine.hart
    c.make_turn.new.machine.hart c.steps.state c.make_turn.new.state c.steps.moved c.make_turn.new.moved) c.in-Went.is c.in_ok-make_turn.ensures.leads in
    record {
      code = c.make_turn.ensures.code ∙ c.steps.invariant.code;
      at = c.make_turn.ensures.at;
      bounded = c.make_turn.ensures.bounded;
      within = let e = c.in_ok-make_turn.ensures.steps c.in-Went.is in let t = c.steps-test.true in omega (arith, e, t);
      lead = λ image m s shows b. went image m s (subst (λ (k : LaidCode). ShowsCode k image) (sym c.steps.invariant.code) shows)
          (c.steps.invariant.lead image m s shows b);
    }

pub returns-in-Returned : goal.returns-in-Returned
returns-in-Returned c =
    let src = source_of c.args.source.now.blocks c.args.subs.now in
    let code = c.steps.machine.code in
    let returned = subst (λ (t : StepOutcome). Leads src code c.args.lists.now c.args.parts.now t c.steps.counts c.make_turn.new.counts c.steps.machine.hart
    c.make_turn.new.machine.hart c.steps.state c.make_turn.new.state c.steps.moved c.make_turn.new.moved) c.in-Returned.is
    c.in_ok-make_turn.ensures.leads in
    record {
      counts = λ image m s shows b. returned image m s c.args.limit (subst (λ (k : LaidCode). ShowsCode k image) (sym c.steps.invariant.code) shows)
          (c.steps.invariant.lead image m s shows b) c.steps-test.true;
      apart = tt;
    }

pub returns-in-Apart : goal.returns-in-Apart
returns-in-Apart c =
    let src = source_of c.args.source.now.blocks c.args.subs.now in
    let code = c.steps.machine.code in
    let away = subst (λ (t : StepOutcome). Leads src code c.args.lists.now c.args.parts.now t c.steps.counts c.make_turn.new.counts c.steps.machine.hart
    c.make_turn.new.machine.hart c.steps.state c.make_turn.new.state c.steps.moved c.make_turn.new.moved) c.in-Apart.is c.in_ok-make_turn.ensures.leads in
    record {
      counts = tt;
      apart = λ image m s shows b. subst (λ (k : LaidCode). GoesApart src image k c.args.lists.now c.args.parts.now c.args.limit m s)
          c.steps.invariant.code (away image m s c.args.limit (subst (λ (k : LaidCode). ShowsCode k image) (sym c.steps.invariant.code) shows)
          (c.steps.invariant.lead image m s shows b) c.steps-test.true);
    }

pub returns : goal.returns
returns c = record {
  counts = λ image m s shows b.
      (let within = c.steps.invariant.within in let test = c.steps-test.false in
      let all : c.steps.counts.steps ≡ c.args.limit = omega (arith, within, test) in
      makes_steps (c.steps.invariant.lead image m s shows b).counted all);
  apart = tt;
}
