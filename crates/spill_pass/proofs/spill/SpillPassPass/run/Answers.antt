use Rattle.std.proofs.Common.{◌≡◌, ℕ, List, [], ◌∷◌, sym, ap, ◌∙◌, subst}
use Rattle.mir_func.specs.declared.debug_substitution.DebugSubstitution.{DebugSubstitution}
use Rattle.mir_func.specs.Function.{Function}
use Rattle.spill_proof.specs.pass_trait.Change.{change}
use Rattle.spill_proof.specs.pass_trait.Steps.{KeepsSteps}
use Rattle.spill_proof.specs.Step.{spill_step}
use Rattle.spill_proof.specs.Kept.{IsReserve, IsSpilledWithLosses}
use Rattle.spill_pass.specs.Reserve.{reserve_of}
use Rattle.spill_pass.proofs.Reserved.{is_reserve}
use Rattle.spill_pass.proofs.Results.{if_ok}
use Rattle.spill_pass.proofs.spill.SpillPassPass.run.Goals as goal

pub spill-requires-clause-reserve : goal.spill-requires-clause-reserve
spill-requires-clause-reserve c =
    subst IsReserve (sym (c.as_slice-2.ensures ∙ c.in_ok-reserve.ensures)) (is_reserve c.as_slice.result.now)

pub returns-clause-follows : goal.returns-clause-follows
returns-clause-follows c =
    let f : Function = c.args.f.now in
    let g : Function = c.spill.new.f in
    let subs : List DebugSubstitution = c.args.subs.now in
    let reserve : List ℕ = c.as_slice-2.result.now in
    let keeps : IsReserve reserve = subst IsReserve (sym (c.as_slice-2.ensures ∙ c.in_ok-reserve.ensures)) (is_reserve c.as_slice.result.now) in
    if_ok c.spill.result (IsSpilledWithLosses reserve f subs g) _ c.spill.ensures.spilled
    (λ losses h fits. c.spilled_keeps_following.ensures reserve f subs g losses keeps c.spill.ensures.sound c.spill.ensures.forms h)

pub returns-clause-steps : goal.returns-clause-steps
returns-clause-steps c =
    let f : Function = c.args.f.now in
    let g : Function = c.spill.new.f in
    let subs : List DebugSubstitution = c.args.subs.now in
    let reserve : List ℕ = c.as_slice-2.result.now in
    let keeps : IsReserve reserve = subst IsReserve (sym (c.as_slice-2.ensures ∙ c.in_ok-reserve.ensures)) (is_reserve c.as_slice.result.now) in
    let is : reserve ≡ reserve_of c.args.self.now.reserve = c.as_slice-2.ensures ∙ c.in_ok-reserve.ensures ∙ ap reserve_of c.as_slice.ensures in
    if_ok c.spill.result (IsSpilledWithLosses reserve f subs g) _ c.spill.ensures.spilled
    (λ losses h. subst (λ (r : List ℕ). KeepsSteps (spill_step r ∷ []) (change f subs g subs) losses) is
    (c.spilled_keeps_steps.ensures reserve f subs g losses keeps c.spill.ensures.sound c.spill.ensures.forms h))

pub returns-clause-sizes : goal.returns-clause-sizes
returns-clause-sizes c =
    let f : Function = c.args.f.now in
    let g : Function = c.spill.new.f in
    let subs : List DebugSubstitution = c.args.subs.now in
    let reserve : List ℕ = c.as_slice-2.result.now in
    let keeps : IsReserve reserve = subst IsReserve (sym (c.as_slice-2.ensures ∙ c.in_ok-reserve.ensures)) (is_reserve c.as_slice.result.now) in
    if_ok c.spill.result (IsSpilledWithLosses reserve f subs g) _ c.spill.ensures.spilled
    (λ losses h. c.spilled_keeps_sizes.ensures reserve f subs g losses keeps h)
