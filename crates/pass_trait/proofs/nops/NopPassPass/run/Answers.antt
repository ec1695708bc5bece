use Rattle.std.proofs.Common.{◌≡◌, ◌↔◌, ℕ, List, Contains, [], ◌∷◌, false, true, sym, subst}
use Rattle.sem_simulation.specs.mir_func.Function.{Function}
use Rattle.pass_trait.specs.Change.{change}
use Rattle.pass_trait.specs.declared.loss.Reason.TheVariants.{Removed}
use Rattle.pass_trait.specs.declared.loss.Loss.{Loss}
use Rattle.pass_trait.specs.Order.{IsInOrder}
use Rattle.pass_trait.specs.Rule.{number_lost}
use Rattle.pass_trait.specs.Steps.{KeepsSteps}
use Rattle.pass_trait.specs.Simulation.{PreservesSimulation}
use Rattle.pass_trait.specs.Sizes.{KeepsSizes}
use Rattle.pass_trait.specs.Nops.{has_added_saves, nop_step}
use Rattle.pass_trait.proofs.NopFollows.{nops_follow}
use Rattle.pass_trait.proofs.NopSizes.{sizes_thin}
use Rattle.pass_trait.proofs.NopDebug.{nops_step}
use Rattle.pass_trait.proofs.Results.{on_ok, both_ok}
use Rattle.pass_trait.proofs.nops.NopPassPass.run.Goals as goal

pub returns-clause-follows : goal.returns-clause-follows
returns-clause-follows c =
    let P : Function → Type 0 = λ g. PreservesSimulation false true
    (change c.args.f.now c.args._subs.now g c.args._subs.now) in
    on_ok c.lost_numbers.result _ (λ fits. subst P (sym c.in_ok-numbers.ensures.code) (nops_follow c.args.f.now c.args._subs.now c.take_out_nops.ensures.sound))

pub returns-clause-steps : goal.returns-clause-steps
returns-clause-steps c =
    let f : Function = c.args.f.now in
    let P : List Loss → Function → Type 0 =
    λ losses g. KeepsSteps (nop_step ∷ []) (change f c.args._subs.now g c.args._subs.now) losses in
    let Each : List ℕ → List Loss → Type 0 = λ ns losses. (l : Loss) → Contains losses l ↔ ((k : ℕ) × Contains ns k × (l ≡ number_lost k Removed)) in
    let numbers = c.in_ok-numbers.ensures.numbers in
    both_ok c.lost_numbers.result IsInOrder (Each c.in_ok-numbers.numbers.items) _ c.lost_numbers.ensures.ordered c.lost_numbers.ensures.each
    (λ losses ordered each. subst (P losses) (sym c.in_ok-numbers.ensures.code)
    (nops_step f c.take_out_nops.ensures.sound c.args._subs.now losses ordered (subst (λ (ns : List ℕ). Each ns losses) numbers each)))

pub returns-clause-sizes : goal.returns-clause-sizes
returns-clause-sizes c =
    let P : Function → Type 0 = λ g. KeepsSizes 1 0 (change c.args.f.now c.args._subs.now g c.args._subs.now) in
    on_ok c.lost_numbers.result _ (subst P (sym c.in_ok-numbers.ensures.code) (sizes_thin (has_added_saves c.args.f.now.blocks) c.args.f.now c.args._subs.now))
