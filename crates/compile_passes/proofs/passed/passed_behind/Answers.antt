use Rattle.std.proofs.Common.{◌≡◌, List, ◌++◌, All, subst, ap, ◌∙◌, rules}
use Rattle.mir_func.specs.Function.{Function}
use Rattle.mir_func.specs.Sound.{IsSound}
use Rattle.linear_scan.specs.mir_type_facts.Typed.{IsTypedBlock, IsTypedEntry}
use Rattle.pass_trait.specs.declared.loss.Loss.{Loss}
use Rattle.compile_passes.proofs.Accepted.{accepted}
use Rattle.compile_passes.proofs.AfterPasses.{has_numbers, has_slots, few_after, calls_after, made_after, compilable_after}
use Rattle.compile_passes.proofs.passed.passed_behind.Goals as goal

pub run_exposed-requires-clause-numbers : goal.run_exposed-requires-clause-numbers
run_exposed-requires-clause-numbers c =
    has_numbers c.args._meta.now c.args.source.now c.requires.read c.requires.substitutions c.args.reserve.now c.args.passes.now
    (accepted c.args.passes.now c.requires.distinct) c.args.allocated.function c.args.allocated.substitutions c.args.allocated.losses c.requires.scanned

pub run_exposed-requires-clause-slots : goal.run_exposed-requires-clause-slots
run_exposed-requires-clause-slots c =
    has_slots c.args._meta.now c.args.source.now c.requires.read c.requires.substitutions c.args.reserve.now c.args.passes.now
    (accepted c.args.passes.now c.requires.distinct) c.args.allocated.function c.args.allocated.substitutions c.args.allocated.losses c.requires.scanned

pub returns-clause-compilable : goal.returns-clause-compilable
returns-clause-compilable c =
    let sound : IsSound c.run_exposed.new.f = search rules in
    compilable_after c.args._meta.now c.args.source.now c.args.reserve.now c.args.passes.now c.args.allocated.function c.args.allocated.substitutions
    c.args.allocated.losses c.run_exposed.new.f c.run_exposed.new.subs c.requires.read c.requires.substitutions
    (accepted c.args.passes.now c.requires.distinct) c.requires.scanned c.requires.physical sound c.in_ok-later.ensures.follows
    c.in_ok-later.ensures.growth c.in_ok-later.ensures.shown
    (subst (All IsTypedBlock) (c.as_slice-2.ensures ∙ ap (λ (f : Function). f.blocks) c.function.view_is) c.blocks_are_typed.ensures)
    (subst (All IsTypedEntry) c.entries.ensures c.entries_are_typed.ensures)

pub returns-clause-made : goal.returns-clause-made
returns-clause-made c =
    let joined : c.extend_from_slice.new.self ≡ c.args.allocated.losses ++ c.in_ok-later.later =
    c.in_ok-extend_from_slice.ensures.ok ∙ ap (λ (l : List Loss). c.args.allocated.losses ++ l) c.as_slice.ensures in
    made_after c.args._meta.now c.args.source.now c.args.reserve.now c.args.passes.now c.args.allocated.function c.args.allocated.substitutions
    c.args.allocated.losses c.run_exposed.new.f c.run_exposed.new.subs c.requires.read c.requires.substitutions
    (accepted c.args.passes.now c.requires.distinct) c.requires.scanned c.in_ok-later.later c.extend_from_slice.new.self c.in_ok-later.ensures.told joined

pub returns-clause-few : goal.returns-clause-few
returns-clause-few c =
    few_after c.args._meta.now c.args.source.now c.args.reserve.now c.args.passes.now c.args.allocated.function c.args.allocated.substitutions
    c.args.allocated.losses c.run_exposed.new.f c.run_exposed.new.subs c.requires.read c.requires.substitutions
    (accepted c.args.passes.now c.requires.distinct) c.requires.scanned c.in_ok-later.ensures.growth

pub returns-clause-calls : goal.returns-clause-calls
returns-clause-calls c =
    calls_after c.args._meta.now c.args.source.now c.args.reserve.now c.args.passes.now c.args.allocated.function c.args.allocated.substitutions
    c.args.allocated.losses c.run_exposed.new.f c.run_exposed.new.subs c.requires.read c.requires.substitutions
    (accepted c.args.passes.now c.requires.distinct) c.requires.scanned c.in_ok-later.ensures.growth
