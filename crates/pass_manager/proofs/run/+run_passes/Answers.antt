use Rattle.std.proofs.Common.{◌≡◌, List, ◌++◌, ◌∙◌, ap, arith}
use Rattle.pass_trait.specs.declared.loss.Loss.{Loss}
use Rattle.pass_manager.proofs.Row.{shown_then}
use Rattle.pass_manager.proofs.Whole.{then_numbers, then_slots, all_follow, all_told, all_growth}
use Rattle.pass_manager.proofs.run.+run_passes.Goals as goal

pub run_passes-requires : goal.run_passes-requires
run_passes-requires t c =
    let fewer = c.in-Some.ensures.cases.1 in
    let before = c.decreases in (
      omega (arith, fewer, before),
      (
        then_numbers c.args.passes.now c.in-Some.first.now c.in-Some.rest.now c.in-Some.ensures.cases.0 c.args.f.now c.args.subs.now
            c.run_pass.new.f c.run_pass.new.subs c.in_ok-run_pass-in-Some.ensures.sizes c.requires.numbers,
        then_slots c.args.passes.now c.in-Some.first.now c.in-Some.rest.now c.in-Some.ensures.cases.0 c.args.f.now c.args.subs.now
            c.run_pass.new.f c.run_pass.new.subs c.in_ok-run_pass-in-Some.ensures.sizes c.requires.slots,
      ),
    )

pub returns-in_ok-extend_from_slice-in-Some-clause-follows :
    goal.returns-in_ok-extend_from_slice-in-Some-clause-follows
returns-in_ok-extend_from_slice-in-Some-clause-follows t c =
    all_follow c.args.passes.now c.in-Some.first.now c.in-Some.rest.now c.in-Some.ensures.cases.0 c.args.f.now c.args.subs.now
    c.run_pass.new.f c.run_pass.new.subs c.run_passes.new.f c.run_passes.new.subs c.in_ok-run_pass-in-Some.ensures.follows
    c.in_ok-later-in-Some.ensures.follows

pub returns-in_ok-extend_from_slice-in-Some-clause-told :
    goal.returns-in_ok-extend_from_slice-in-Some-clause-told
returns-in_ok-extend_from_slice-in-Some-clause-told t c =
    let joined : c.extend_from_slice.new.self ≡ c.told-losses.result ++ c.in_ok-later-in-Some.later =
    c.in_ok-extend_from_slice-in-Some.ensures.ok ∙ ap (λ (l : List Loss). c.told-losses.result ++ l) c.as_slice.ensures in
    all_told c.args.passes.now c.in-Some.first.now c.in-Some.rest.now c.in-Some.ensures.cases.0 c.args.f.now c.args.subs.now
    c.run_pass.new.f c.run_pass.new.subs c.run_passes.new.f c.run_passes.new.subs c.args.reserve.now c.told-losses.result
    c.in_ok-later-in-Some.later c.extend_from_slice.new.self joined
    (record { lost = c.in_ok-run_pass-in-Some.field-0; kept = c.in_ok-run_pass-in-Some.ensures.steps; are_told = c.told-losses.ensures })
    c.in_ok-later-in-Some.ensures.told

pub returns-in_ok-extend_from_slice-in-Some-clause-growth :
    goal.returns-in_ok-extend_from_slice-in-Some-clause-growth
returns-in_ok-extend_from_slice-in-Some-clause-growth t c =
    all_growth c.args.passes.now c.in-Some.first.now c.in-Some.rest.now c.in-Some.ensures.cases.0 c.args.f.now c.args.subs.now
    c.run_pass.new.f c.run_pass.new.subs c.run_passes.new.f c.run_passes.new.subs c.in_ok-run_pass-in-Some.ensures.sizes
    c.in_ok-later-in-Some.ensures.growth

pub returns-in_ok-extend_from_slice-in-Some-clause-shown :
    goal.returns-in_ok-extend_from_slice-in-Some-clause-shown
returns-in_ok-extend_from_slice-in-Some-clause-shown t c =
    shown_then c.args.f.now c.run_pass.new.f c.run_passes.new.f c.in_ok-run_pass-in-Some.ensures.shown c.in_ok-later-in-Some.ensures.shown
